-- `slips::read_setting` meets its promise: what stands at the place is the answer to a body.
use Rattle.slips.proofs.Judged.{slip_read}
use Rattle.slips.proofs.reading.read_setting.Goals as goal

pub returns : goal.returns
returns c = let h = c.in-Some.ensures.lookup.0 in slip_read _ _ h.0 h.2 c.in-Some-split_first.ensures.cases.0 c.read_body.ensures
