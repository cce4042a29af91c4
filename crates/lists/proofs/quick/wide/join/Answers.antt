-- `lists::join` keeps what it promises inside the crate: what is taken off is no more than there is.
use Rattle.lists.proofs.quick.PairedDigits.{joined_digits}
use Rattle.lists.proofs.quick.wide.join.Goals as goal

pub returns : goal.returns
returns c = joined_digits c.ranges.w.fits c.requires
