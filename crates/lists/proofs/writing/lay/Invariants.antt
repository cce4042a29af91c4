-- What `lists::lay`'s loop holds: `Laying`, with the numbers that are left.
use Rattle.std.proofs.Common.{drop}
use Rattle.words.proofs.LaysInParts.{Laying}
use Rattle.lists.specs.Lists.{forms}
use Rattle.lists.proofs.writing.lay.Given as goal

abbrev pub invariant-loop-v : goal.invariant-loop-v
invariant-loop-v l = Laying (forms l.numbers) l.initial.buffer l.at l.buffer l.to (forms (drop l.v-index l.numbers))
