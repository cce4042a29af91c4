-- `lists::first` keeps what it promises inside the crate.
use Rattle.lists.proofs.quick.FirstFlag.{first_flag}
use Rattle.lists.proofs.quick.wide.first.Goals as goal

pub returns : goal.returns
returns c = first_flag c.ranges.h.fits c.requires
