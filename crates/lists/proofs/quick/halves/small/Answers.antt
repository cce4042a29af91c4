-- `lists::small` keeps what it promises inside the crate.
use Rattle.lists.specs.InnerHalves.{none, some}
use Rattle.lists.proofs.quick.Steps.{few_taken}
use Rattle.lists.proofs.quick.halves.small.Goals as goal

pub returns-then-is_high_8_bit_set-clause-stored : goal.returns-then-is_high_8_bit_set-clause-stored
returns-then-is_high_8_bit_set-clause-stored c = none

pub returns-clause-few : goal.returns-clause-few
returns-clause-few c = few_taken c.store16.ensures

pub returns-clause-stored : goal.returns-clause-stored
returns-clause-stored c = some c.store16.ensures
