-- `lists::low_digits` keeps what it promises inside the crate.
use Rattle.lists.proofs.quick.Bytewise.{low_bytes_lem}
use Rattle.lists.proofs.quick.wide.low_digits.Goals as goal

pub returns : goal.returns
returns c = low_bytes_lem c.ranges.w.fits
