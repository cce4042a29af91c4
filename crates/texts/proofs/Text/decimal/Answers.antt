-- `texts::Text::decimal` meets its promise: the digits that `io::decimal` makes are the number's.
use Rattle.texts.proofs.Decimals.{lays_decimal}
use Rattle.texts.proofs.Text.decimal.Goals as goal

pub returns : goal.returns
returns c = lays_decimal _ _ c.decimal-count.ensures.len c.decimal-count.ensures.digits c.word.ensures
