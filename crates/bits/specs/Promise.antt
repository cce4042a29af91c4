-- What the functions of this crate promise.
--
--   TakesLow7Bits v r   r is the low seven bits of v
--   IsHigh8BitSet b r   r says whether the byte b is 128 or more
--   SetsHigh8Bit b r    r is the byte b with its high bit set
use Rattle.std.specs.Prelude.{ℕ, Bool, ◌≡◌}
use Rattle.bits.specs.Macros.{take_low_7_bits_lem, is_high_8_bit_set_lem, set_high_8_bit_lem}

abbrev pub TakesLow7Bits : ℕ → ℕ → Type 0
TakesLow7Bits v r = r ≡ take_low_7_bits_lem v

abbrev pub IsHigh8BitSet : ℕ → Bool → Type 0
IsHigh8BitSet b r = r ≡ is_high_8_bit_set_lem b

abbrev pub SetsHigh8Bit : ℕ → ℕ → Type 0
SetsHigh8Bit b r = r ≡ set_high_8_bit_lem b
