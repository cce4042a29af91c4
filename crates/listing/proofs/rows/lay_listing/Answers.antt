-- `listing::lay_listing` meets its promise: a law of `Laid` for each return.
use Rattle.std.proofs.Common.{arith}
use Rattle.listing.proofs.Laid.{long_laid, rows_laid}
use Rattle.listing.proofs.rows.lay_listing.Goals as goal

pub returns-then-block-gt-BLOCK_LIMIT : goal.returns-then-block-gt-BLOCK_LIMIT
returns-then-block-gt-BLOCK_LIMIT c = long_laid _ _ c.told-text (omega arith) c.word.ensures.laid

pub returns : goal.returns
returns c = rows_laid _ _ c.told-text (omega arith) c.word-2.ensures.laid c.lay_rows.ensures.laid
