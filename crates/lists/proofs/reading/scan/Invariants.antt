-- What `lists::scan`'s loop holds: `Counted`.
use Rattle.std.proofs.Common.{◌-◌, length}
use Rattle.lists.proofs.ScanLoop.{Counted}
use Rattle.lists.proofs.reading.scan.Given as goal

abbrev pub invariant-loop-at : goal.invariant-loop-at
invariant-loop-at l = Counted l.block l.at l.count

abbrev pub decreases-loop-at : goal.decreases-loop-at
decreases-loop-at l = length l.block - l.at
