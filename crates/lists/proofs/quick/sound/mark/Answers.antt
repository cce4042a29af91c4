-- `lists::mark` keeps what it promises inside the crate: a law of `Marks`.
use Rattle.lists.proofs.quick.Marks.{either_mark}
use Rattle.lists.proofs.quick.sound.mark.Goals as goal

pub returns : goal.returns
returns c =
    either_mark c.ranges.nine.fits c.over.type_inv c.ranges.before.fits c.zero.type_inv c.over.ensures c.zero.ensures
