-- `lists::fill` keeps what it promises inside the crate: the halves are those of `Split`.
use Rattle.lists.proofs.quick.Split.{halves_fit, halves_all}
use Rattle.lists.proofs.quick.halves.fill.Goals as goal

pub fill_halves-requires : goal.fill_halves-requires
fill_halves-requires c = halves_fit c.requires c.start_before-mid.ensures c.low_bytes-half.ensures

pub returns : goal.returns
returns c = halves_all c.requires c.start_before-mid.ensures c.low_bytes-half.ensures c.fill_halves.ensures
