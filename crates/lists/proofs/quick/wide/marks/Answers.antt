-- `lists::marks` keeps what it promises inside the crate.
use Rattle.std.proofs.Common.{arith}
use Rattle.lists.proofs.quick.Bytewise.{marks_and_tops}
use Rattle.lists.proofs.quick.wide.marks.Goals as goal

pub overflow_sub-result : goal.overflow_sub-result
overflow_sub-result c = omega (arith, marks_and_tops c.args.w, c.highs.ensures)

pub returns : goal.returns
returns c = omega (arith, marks_and_tops c.args.w, c.highs.ensures)
