-- `lists::highs` keeps what it promises inside the crate.
use Rattle.lists.proofs.quick.Bytewise.{top_bytes}
use Rattle.lists.proofs.quick.wide.highs.Goals as goal

pub returns : goal.returns
returns c = top_bytes c.ranges.w.fits
