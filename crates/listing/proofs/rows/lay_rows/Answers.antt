-- `listing::lay_rows` keeps what it promises inside the crate: each turn of its loop is a law of `Laid`, by what the row says that stands there.
use Rattle.std.proofs.Common.{◌≡◌, ℕ, ◌≤◌, List, [], length, arith, Some, None}
use Rattle.words.specs.declared.Count.{Count}
use Rattle.blocks.specs.Block.{block_limit}
use Rattle.listing.specs.Inner.{word_of, SaysRow}
use Rattle.listing.specs.declared.rows.What.{What}
use Rattle.listing.proofs.RowsLeft.{Here, Behind, left, rowing, no_row, next_row}
use Rattle.listing.proofs.Laid.{row_more, rows_ended}
use Rattle.listing.proofs.rows.lay_rows.Goals as goal

module _ {s : List ℕ} {p : ℕ} (short : length s ≤ block_limit) (here : Here s p) where
  stands : {w : What} {v : ℕ} {n : Count} → SaysRow s p (Some (w, v, n)) → Behind s p (word_of w) v n.0
  stands said = next_row (rowing s p short here) said.is

  none_left : SaysRow s p None → left s p ≡ []
  none_left said = no_row (rowing s p short here) said.is

pub overflow_add-at : goal.overflow_add-at
overflow_add-at c = omega (arith, (stands c.requires c.loop-what.invariant.here c.in-Some.ensures).within)

pub loop-what-smaller : goal.loop-what-smaller
loop-what-smaller c = let b = stands c.requires c.loop-what.invariant.here c.in-Some.ensures in omega (arith, b.within, b.some)

pub loop-what-preserved : goal.loop-what-preserved
loop-what-preserved c = row_more c.loop-what.invariant (stands c.requires c.loop-what.invariant.here c.in-Some.ensures) c.lay_row.ensures

pub returns : goal.returns
returns c = rows_ended c.loop-what.invariant (none_left c.requires c.loop-what.invariant.here c.in_default.ensures)
