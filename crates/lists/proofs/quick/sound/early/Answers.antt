-- `lists::early` keeps what it promises inside the crate: a turn is a law of `Marks`.
use Rattle.lists.proofs.quick.Marks.{one_judged, low_early, high_and, or_most}
use Rattle.lists.proofs.quick.sound.early.Goals as goal

pub loop-k-preserved : goal.loop-k-preserved
loop-k-preserved c =
    let m = high_and _ _ (c.type_inv.s _).fits c.zero.type_inv in
    one_judged c.loop-k.invariant (low_early _ _ c.zero.ensures m) (or_most _ _)
