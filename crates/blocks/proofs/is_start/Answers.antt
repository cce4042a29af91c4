-- `blocks::is_start` keeps what it promises inside the crate.
use Rattle.blocks.proofs.HighRun.{front_is_start, low_is_start}
use Rattle.blocks.proofs.is_start.Goals as goal

pub returns-then-at-lt1 : goal.returns-then-at-lt1
returns-then-at-lt1 c = front_is_start _ _ c.if-at-lt1.true

pub returns-else-at-lt1 : goal.returns-else-at-lt1
returns-else-at-lt1 c = low_is_start _ _ c.if-at-lt1.false c.is_high_8_bit_set.ensures
