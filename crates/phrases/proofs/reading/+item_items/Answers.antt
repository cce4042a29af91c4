-- `item` and `items` meet their contracts, a law for each return.
use Rattle.std.proofs.Common.{arith}
use Rattle.phrases.proofs.Passing.{at_end, at_leaf, at_bottom, at_branch, at_empty, one_done, all_done, no_item_left}
use Rattle.phrases.proofs.reading.+item_items.Goals as goal

pub item-returns-in_default : goal.item-returns-in_default
item-returns-in_default t c = at_end _ (omega (arith, c.in_default.ensures.lookup))

pub item-returns-then-n-eq0 : goal.item-returns-then-n-eq0
item-returns-then-n-eq0 t c = let h = c.in-Some.ensures.lookup in at_leaf _ h.3.0 (h.3.1 0) (omega arith)

pub item-returns-in_err-inside : goal.item-returns-in_err-inside
item-returns-in_err-inside t c =
    let h = c.in-Some.ensures.lookup in
    rw c.from_residual.ensures (at_bottom _ h.3.0 (h.3.1 0) (omega arith) (omega (arith, c.in_err-inside.ensures)))

pub item-returns-then-count-eq0 : goal.item-returns-then-count-eq0
item-returns-then-count-eq0 t c =
    let h = c.in-Some.ensures.lookup in at_empty _ h.3.0 (h.3.1 0) {inside = c.in_ok-inside.inside} (omega arith) (omega (arith, c.in_ok-inside.ensures)) (omega arith)

pub item-returns : goal.item-returns
item-returns t c = let h = c.in-Some.ensures.lookup in at_branch _ h.3.0 (h.3.1 0) (omega arith) (omega (arith, c.in_ok-inside.ensures)) c.items.ensures

pub items-returns-in_err-at : goal.items-returns-in_err-at
items-returns-in_err-at t c = rw c.from_residual.ensures (no_item_left c.loop.invariant c.loop-test.true c.in_err-at.ensures)

pub items-loop-preserved : goal.items-loop-preserved
items-loop-preserved t c = one_done c.loop.invariant c.loop-test.true c.in_ok-at.ensures

pub items-returns : goal.items-returns
items-returns t c = all_done c.loop.invariant (omega arith)
