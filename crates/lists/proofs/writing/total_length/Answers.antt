-- `lists::total_length` keeps what it promises inside the crate: each turn and the end are laws of `TotalLoop`.
use Rattle.std.proofs.Common.{arith, ◌+◌}
use Rattle.uleb128.proofs.Forms.{form_takes}
use Rattle.lists.proofs.TotalLoop.{Adding, one_added, all_added}
use Rattle.lists.proofs.writing.total_length.Goals as goal

pub loop-v-preserved : goal.loop-v-preserved
loop-v-preserved c = one_added _ c.loop-v.invariant c.loop-v-test.true (c.type_inv.numbers _).fits (form_takes _ c.spelled_length-total.ensures).is

-- with the number, no more are counted than ten bytes for each
pub overflow_add-total : goal.overflow_add-total
overflow_add-total c =
    let a : Adding c.args.numbers.now (c.loop-v.total + c.spelled_length-total.result.0) (c.loop-v.v-index + 1) =
    one_added _ c.loop-v.invariant c.loop-v-test.true (c.type_inv.numbers _).fits (form_takes _ c.spelled_length-total.ensures).is in
    omega (arith, a.few, a.within, c.requires)

pub returns : goal.returns
returns c = record { is = all_added _ c.loop-v.invariant c.loop-v-test.false }
