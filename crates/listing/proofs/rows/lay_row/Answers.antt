-- `listing::lay_row` keeps what it promises inside the crate: the parts of a row, one behind the other.
use Rattle.listing.proofs.Laid.{row_laid}
use Rattle.listing.proofs.rows.lay_row.Goals as goal

pub returns : goal.returns
returns c = row_laid _ _ _ c.decimal.ensures c.lay_word.ensures c.decimal-2.ensures c.word.ensures
