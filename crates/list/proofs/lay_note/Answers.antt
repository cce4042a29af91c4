-- `list::lay_note` keeps what it promises: each note stands at the front, since the buffer has room for the longest.
use Rattle.std.proofs.Common.{rules, ◌≡◌, is_ok, true, false, ◌≤◌, length, length-append, lt-ltb, arith}
use Rattle.texts.proofs.Decimals.{decimal_within_lem}
use Rattle.blocks.specs.Block.{block_limit}
use Rattle.listing.specs.Program.{limit_note}
use Rattle.listing.proofs.Laid.{fronts}
use Rattle.list.proofs.lay_note.Goals as goal
use Rattle.list.proofs.lay_note.Goals.{in-Err, in-Ok, in-Ok-2, in-Ok-3}

limit_short : length limit_note ≤ 128
limit_short = simp length-append (omega (arith, decimal_within_lem 9 block_limit (omega arith)))

pub returns : goal.returns
returns c =
    elim c.match-known.branch [
      | in-Err w ↦ rw (w.note-is, w.in-Err.is) (fronts (omega (arith, c.told-note)) w.word.ensures.laid)
      | in-Ok w ↦
          let lost : is_ok c.args.written ≡ false = search rules in
          rw (w.note-is, w.in-Ok.is, lost) (fronts (omega (arith, c.told-note)) w.word-in-Ok.ensures.laid)
      | in-Ok-2 w ↦
          let kept : is_ok c.args.written ≡ true = search rules in
          rw (w.note-is, w.in-Ok-2.is, kept, lt-ltb block_limit w.in-Ok-2.count.0 (omega arith))
          (fronts (omega (arith, c.told-note, limit_short)) w.lay_limit.ensures.laid)
      | in-Ok-3 w ↦ search rules
    ]
