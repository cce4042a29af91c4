-- The source's macros on bytes, by remainder and sum where it has masks: each under its name with `_lem` behind it, since the function has the name itself.
--
--   take_low_7_bits_lem v     the low seven bits of a byte, or of any number
--   is_high_8_bit_set_lem b   the byte is 128 or more
--   set_high_8_bit_lem b      the byte with its high bit set
use Rattle.std.specs.Prelude.{ℕ, ◌+◌, ◌%◌, Bool, leb}

abbrev pub take_low_7_bits_lem : ℕ → ℕ
take_low_7_bits_lem v = v % 128

abbrev pub is_high_8_bit_set_lem : ℕ → Bool
is_high_8_bit_set_lem b = leb 128 b

abbrev pub set_high_8_bit_lem : ℕ → ℕ
set_high_8_bit_lem b = b % 128 + 128
