-- `lists::clean` keeps what it promises inside the crate: a law of `Marks`.
use Rattle.std.proofs.Common.{arith, ap, not}
use Rattle.bits.proofs.HighBit.{bit_clear}
use Rattle.lists.proofs.quick.Marks.{none_marked}
use Rattle.lists.proofs.quick.sound.clean.Goals as goal

pub returns-then-not-is_high_8_bit_set : goal.returns-then-not-is_high_8_bit_set
returns-then-not-is_high_8_bit_set c = λ low.
    let h = c.in-Some.ensures.item in
    none_marked c.later.ensures c.early.ensures
    (omega (arith, h.3.1 0, bit_clear c.is_high_8_bit_set.ensures (ap not c.if-not-is_high_8_bit_set.true)))
    (bit_clear c.is_high_8_bit_set-then-not-is_high_8_bit_set.ensures low)
