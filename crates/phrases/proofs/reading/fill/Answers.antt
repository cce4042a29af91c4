-- `fill` meets its contract: each number takes the loop's invariant on, and at both returns the slice is full.
use Rattle.std.proofs.Common.{arith}
use Rattle.phrases.proofs.HalvesLoop.{none_stored, next_stored, all_stored, all_seen}
use Rattle.phrases.proofs.reading.fill.Goals as goal

pub loop-n-init : goal.loop-n-init
loop-n-init c = none_stored _ _ c.requires

pub loop-n-preserved : goal.loop-n-preserved
loop-n-preserved c = next_stored _ _ c.loop-n.invariant c.loop-n-test.true (omega (arith, c.loop-n.invariant.room))

pub returns-then-filled-sentences : goal.returns-then-filled-sentences
returns-then-filled-sentences c = all_stored _ _ c.loop-n.invariant c.if-filled-sentences.true

pub returns : goal.returns
returns c = all_stored _ _ c.loop-n.invariant (all_seen _ _ c.loop-n.invariant (omega arith))
