-- `groups::walk` meets its promise: the loop holds `WalkedSoFar`.
use Rattle.groups.proofs.WalkLoop.{WalkedSoFar}
use Rattle.groups.proofs.reading.walk.Given as goal

abbrev pub invariant-loop-high : goal.invariant-loop-high
invariant-loop-high l = WalkedSoFar l.rest l.high l.sum l.weight
