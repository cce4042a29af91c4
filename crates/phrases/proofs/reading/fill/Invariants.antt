-- What the loop of `fill` holds: what is stored so far, and how much room is left. Each number takes it on by one.
use Rattle.phrases.proofs.HalvesLoop.{Stored}
use Rattle.phrases.proofs.reading.fill.Given as goal

abbrev pub invariant-loop-n : goal.invariant-loop-n
invariant-loop-n l = Stored l.numbers l.sentences l.n-index l.filled
