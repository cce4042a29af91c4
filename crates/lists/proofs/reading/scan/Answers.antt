-- `lists::scan` keeps what it promises inside the crate: at the block's end, a law of `ScanLoop`.
use Rattle.lists.proofs.ScanLoop.{all_counted}
use Rattle.lists.proofs.reading.scan.Goals as goal

pub returns : goal.returns
returns c = record { is = all_counted _ c.loop-at.invariant c.loop-at-test.false }
