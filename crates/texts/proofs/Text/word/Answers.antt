-- `texts::Text::word` meets its promise: as many bytes as there is room for are copied.
use Rattle.std.proofs.Common.{refl, arith}
use Rattle.texts.proofs.LaysText.{part_laid}
use Rattle.texts.proofs.Text.word.Goals as goal

pub returns : goal.returns
returns c = record { lent = refl; laid = rw c.copy_from_slice.ensures.after (part_laid _ _ _ _ _ (omega (arith, c.if-self-filled.false)) c.min-n.ensures (omega arith)) }
