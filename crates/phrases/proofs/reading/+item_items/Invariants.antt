-- What falls in `item` and `items` is a number made from the depth left and, below it, the items left: into a branch the depth falls by one, and
-- an item of some is below them all. The loop holds that the items left end where all of them do.
use Rattle.std.proofs.Common.{◌+◌, ◌*◌}
use Rattle.phrases.proofs.Passing.{ItemsLeft}
use Rattle.phrases.proofs.reading.+item_items.Given as goal

abbrev pub decreases-item : goal.decreases-item
decreases-item l = l.depth * 18446744073709551616

abbrev pub decreases-items : goal.decreases-items
decreases-items l = l.depth * 18446744073709551616 + l.count

abbrev pub invariant-items-loop : goal.invariant-items-loop
invariant-items-loop l = ItemsLeft l.depth l.count l.numbers l.first l.at l.counter
