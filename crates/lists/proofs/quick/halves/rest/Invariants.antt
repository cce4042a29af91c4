-- `rest` keeps what it promises inside the crate: the loop holds `Poured`.
use Rattle.std.proofs.Common.{length}
use Rattle.lists.proofs.quick.RestLoop.{Poured}
use Rattle.lists.proofs.quick.halves.rest.Given as goal

abbrev pub invariant-loop-number : goal.invariant-loop-number
invariant-loop-number l = Poured l.s l.from (length l.fn.numbers) l.number-items l.at l.number-index
