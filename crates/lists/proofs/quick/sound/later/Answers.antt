-- `lists::later` keeps what it promises inside the crate: a turn is a law of `Marks`.
use Rattle.lists.proofs.quick.Marks.{one_judged, low_mark, or_most}
use Rattle.lists.proofs.quick.sound.later.Goals as goal

pub loop-k-preserved : goal.loop-k-preserved
loop-k-preserved c = one_judged c.loop-k.invariant (low_mark _ _ c.shared.ensures c.mark-marks.ensures) (or_most _ _)
