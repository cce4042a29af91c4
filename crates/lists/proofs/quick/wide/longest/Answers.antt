-- `lists::longest` keeps what it promises inside the crate: by each test of the ninth byte a law of `NumberInWord`.
use Rattle.std.proofs.Common.{arith, ◌<◌, ◌^◌}
use Rattle.lists.proofs.quick.NumberInWord.{digits_eight}
use Rattle.lists.proofs.quick.wide.longest.Goals as goal

pub overflow_add-result : goal.overflow_add-result
overflow_add-result c = let l : c.joined-sum.result < 128 ^ 8 = rw c.joined-sum.ensures (digits_eight c.args.w) in omega arith

pub overflow_add-result-2 : goal.overflow_add-result-2
overflow_add-result-2 c = let l : c.joined-sum.result < 128 ^ 8 = rw c.joined-sum.ensures (digits_eight c.args.w) in omega arith

pub overflow_add-result-3 : goal.overflow_add-result-3
overflow_add-result-3 c = let l : c.joined-sum.result < 128 ^ 8 = rw c.joined-sum.ensures (digits_eight c.args.w) in omega arith
