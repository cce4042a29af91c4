-- What `lists::later`'s loop holds: the bytes behind the first nine up to here are judged.
use Rattle.lists.proofs.quick.Marks.{Neither, Judged}
use Rattle.lists.proofs.quick.sound.later.Given as goal

abbrev pub invariant-loop-k : goal.invariant-loop-k
invariant-loop-k l = Judged (Neither l.s) 9 l.marks l.k
