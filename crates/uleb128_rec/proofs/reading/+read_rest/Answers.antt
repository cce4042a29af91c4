-- `uleb128_rec::read_rest` keeps what it promises inside the crate: each answer is a law of `ByteInFront`.
use mathlib.Core.Logic.{⊎_elim}
use Rattle.std.proofs.Common.{ap, not, arith, rules}
use Rattle.bits.proofs.HighBit.{bit_clear, bit_set}
use Rattle.groups.proofs.Rows.{due_passed}
use Rattle.uleb128_rec.proofs.ByteInFront.{rest_end, rest_last, rest_large, rest_overrun, rest_ahead, reads_joins}
use Rattle.uleb128_rec.proofs.reading.+read_rest.Goals as goal

pub returns-then-bytes-at : goal.returns-then-bytes-at
returns-then-bytes-at t c = rest_end _ (search rules) _ _ (search rules) c.if-bytes-at.true

-- a byte below 128
pub returns-then-b-gt1 : goal.returns-then-b-gt1
returns-then-b-gt1 t c =
    rest_large _ (search rules) _ _ (search rules) (bit_clear c.is_high_8_bit_set.ensures (ap not c.if-not-is_high_8_bit_set.true))
    (omega arith) (search rules)

pub returns-then-not-is_high_8_bit_set : goal.returns-then-not-is_high_8_bit_set
returns-then-not-is_high_8_bit_set t c =
    rest_last _ (search rules) _ _ (search rules) (bit_clear c.is_high_8_bit_set.ensures (ap not c.if-not-is_high_8_bit_set.true))
    (λ l. ⊎_elim (λ h. h.1) (λ h. absurd (omega arith)) c.else-left-lt2.either)

-- a byte of 128 or more
pub returns-then-left-lt2-2 : goal.returns-then-left-lt2-2
returns-then-left-lt2-2 t c =
    rest_overrun _ (search rules) _ _ (search rules) (bit_set c.is_high_8_bit_set.ensures (ap not c.if-not-is_high_8_bit_set.false)) (search rules)

pub behind-requires : goal.behind-requires
behind-requires t c = reads_joins _ _ _ _ (omega arith) (omega arith) (λ i. (c.type_inv.bytes i).fits) c.read_rest.ensures.is

pub returns : goal.returns
returns t c =
    due_passed
    (rest_ahead _ (search rules) _ _ (search rules) (bit_set c.is_high_8_bit_set.ensures (ap not c.if-not-is_high_8_bit_set.false)) (search rules)
    c.read_rest.ensures.is)
    c.behind.ensures
