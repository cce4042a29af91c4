-- `lists::fill_halves` keeps what it promises inside the crate: the loop holds `Filling`.
use Rattle.std.proofs.Common.{◌-◌}
use Rattle.lists.proofs.quick.HalvesLoop.{Filling}
use Rattle.lists.proofs.quick.halves.fill_halves.Given as goal

abbrev pub invariant-loop-n : goal.invariant-loop-n
invariant-loop-n l = Filling l.s l.mid l.half l.count l.fn.numbers l.numbers l.at l.n l.at2 l.n2

abbrev pub decreases-loop-n : goal.decreases-loop-n
decreases-loop-n l = l.half - l.n
