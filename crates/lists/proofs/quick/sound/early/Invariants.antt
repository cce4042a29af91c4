-- What `lists::early`'s loop holds: the first nine bytes up to here are judged.
use Rattle.lists.proofs.quick.Marks.{NotSpare, Judged}
use Rattle.lists.proofs.quick.sound.early.Given as goal

abbrev pub invariant-loop-k : goal.invariant-loop-k
invariant-loop-k l = Judged (NotSpare l.s) 1 l.marks l.k
