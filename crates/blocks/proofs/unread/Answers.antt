-- `blocks::unread` keeps what it promises inside the crate: the run goes on from the byte that decided the refusal.
use Rattle.blocks.proofs.GroupReading.{decided_inside, missing_tail, missing_gap}
use Rattle.blocks.proofs.unread.Goals as goal

pub slice_bounds-high_run-count : goal.slice_bounds-high_run-count
slice_bounds-high_run-count c = decided_inside c.requires

pub slice_bounds-high_run-start : goal.slice_bounds-high_run-start
slice_bounds-high_run-start c = decided_inside c.requires

pub returns-then-block-last : goal.returns-then-block-last
returns-then-block-last c = rw c.at.ensures (missing_tail c.requires c.high_run.ensures _ c.between-high.ensures c.if-block-last.true)

pub returns : goal.returns
returns c = missing_gap c.requires c.high_run.ensures c.between-high.ensures c.at-2.ensures c.if-block-last.false
