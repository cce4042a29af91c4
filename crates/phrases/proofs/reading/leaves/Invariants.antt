-- What the loop of `leaves` holds: the leaves of the numbers so far are counted.
use Rattle.std.specs.List.{count_by}
use Rattle.std.proofs.Common.{◌≡◌, take}
use Rattle.phrases.specs.Inner.{even}
use Rattle.phrases.proofs.reading.leaves.Given as goal

abbrev pub invariant-loop-n : goal.invariant-loop-n
invariant-loop-n l = l.count ≡ count_by even (take l.n-index l.numbers)
