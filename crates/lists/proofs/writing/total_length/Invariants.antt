-- What `lists::total_length`'s loop holds: `Adding`.
use Rattle.lists.proofs.TotalLoop.{Adding}
use Rattle.lists.proofs.writing.total_length.Given as goal

abbrev pub invariant-loop-v : goal.invariant-loop-v
invariant-loop-v l = Adding l.numbers l.total l.v-index
