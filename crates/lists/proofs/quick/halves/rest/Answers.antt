-- `rest` keeps what it promises inside the crate: the loop holds `Poured`, and each turn is a law of `RestLoop`.
use Rattle.std.proofs.Common.{arith}
use Rattle.lists.proofs.quick.RestLoop.{none_poured, one_poured, not_refused}
use Rattle.lists.proofs.quick.halves.rest.Goals as goal

pub loop-number-init : goal.loop-number-init
loop-number-init c = none_poured _ c.requires

pub overflow_add-at : goal.overflow_add-at
overflow_add-at c =
    omega (arith, (one_poured c.loop-number.invariant c.loop-number-test.true (rw c.in-Ok.is at c.read_u64.ensures.is) (omega arith)).0)

pub loop-number-preserved : goal.loop-number-preserved
loop-number-preserved c = (one_poured c.loop-number.invariant c.loop-number-test.true (rw c.in-Ok.is at c.read_u64.ensures.is) (omega arith)).1

pub returns-in-Err : goal.returns-in-Err
returns-in-Err c = not_refused c.loop-number.invariant c.loop-number-test.true (rw c.in-Err.is at c.read_u64.ensures.is)
