-- `slips::good_range` keeps what it promises inside the crate: what is left is a torque that is not good.
use Rattle.std.proofs.Common.{◌∙◌}
use Rattle.slips.proofs.GoodRange.{highest_bad, lowest_bad}
use Rattle.slips.proofs.good.good_range.Goals as goal
use Rattle.slips.proofs.good.good_range.Goals.{then-good_torque, else-good_torque}

pub returns-else-good_torque-2 : goal.returns-else-good_torque-2
returns-else-good_torque-2 c =
    elim c.if-good_torque.branch [
      | then-good_torque w ↦ c.if-good_torque-2.false ∙ highest_bad _ _ (cc)
      | else-good_torque w ↦ c.if-good_torque-2.false ∙ lowest_bad _ _ (cc)
    ]
