-- `lists::pass` keeps what it promises inside the crate: a law of `NumbersAtStart` for each case of the step.
use Rattle.lists.proofs.NumbersAtStart.{pass_possible, pass_number, pass_gap, pass_tail}
use Rattle.lists.proofs.reading.pass.Goals as goal

-- what the unsigned rule doesn't say
pub unreachable-requires : goal.unreachable-requires
unreachable-requires c =
    let w = c.in-Ok-Number-Signed-default-default in pass_possible _ _ c.requires (rw (w.field-0-is, w.field-0-0-is) at w.ensures.is)

pub unreachable-requires-in-Ok-Finished : goal.unreachable-requires-in-Ok-Finished
unreachable-requires-in-Ok-Finished c = pass_possible _ _ c.requires (rw c.in-Ok-Finished.field-0-is at c.in-Ok-Finished.ensures.is)

pub unreachable-requires-in-Err : goal.unreachable-requires-in-Err
unreachable-requires-in-Err c = pass_possible _ _ c.requires c.in-Err.ensures.is

-- what it says
pub returns-in-Ok-Number-Unsigned-default-default : goal.returns-in-Ok-Number-Unsigned-default-default
returns-in-Ok-Number-Unsigned-default-default c =
    let w = c.in-Ok-Number-Unsigned-default-default in pass_number _ _ c.requires (rw (w.field-0-is, w.field-0-0-is) at w.ensures.is)

pub returns-in-Ok-Gap : goal.returns-in-Ok-Gap
returns-in-Ok-Gap c = pass_gap _ _ c.requires (rw c.in-Ok-Gap.field-0-is at c.in-Ok-Gap.ensures.is)

pub returns-in-Ok-Tail : goal.returns-in-Ok-Tail
returns-in-Ok-Tail c = pass_tail _ _ c.requires (rw c.in-Ok-Tail.field-0-is at c.in-Ok-Tail.ensures.is)
