-- What the loop of `few` holds: those so far are counted.
use Rattle.std.proofs.Common.{◌≡◌, take}
use Rattle.lists.specs.InnerLeft.{lows}
use Rattle.lists.proofs.quick.lows.few.Given as goal

abbrev pub invariant-loop-b : goal.invariant-loop-b
invariant-loop-b l = l.count ≡ lows (take l.b-index l.part)
