-- `spec_parse` and `spec_serialize_helper` of the source (`leb128.rs`), ported as they stand, with division and remainder for its
-- shifts and masks, and emptiness before the first byte. Numbers are those of `UInt`, u64.
--
--   n_bit_max_unsigned      the source's macro `n_bit_max_unsigned!`; the others are in bits/specs/Macros.antt
--   spec_parse              the count of bytes and the number, or none; `spec_parse_more`: with a byte in front
--   spec_serialize_helper   the bytes of a number; `spec_serialize_within`: the same, over a bound on how many there can be
use Rattle.std.specs.Prelude.{ℕ, zero, suc, ◌+◌, ◌-◌, ◌*◌, ◌/◌, ◌^◌, List, [], ◌∷◌, true, false, ltb, leb, eqb}
use Rattle.std.proofs.Math.Option.{Option, some, none}
use Rattle.words.specs.Answer.{pick, both}
use Rattle.bits.specs.Macros.{take_low_7_bits_lem, is_high_8_bit_set_lem, set_high_8_bit_lem}

abbrev pub n_bit_max_unsigned : ℕ → ℕ
n_bit_max_unsigned n = 2 ^ n - 1

-- a byte in front of what `spec_parse` gives of the rest: `n < usize::MAX && 0 < v2 <= n_bit_max_unsigned!(8 * uint_size!() - 7)`
abbrev pub spec_parse_more : ℕ → Option (ℕ × ℕ) → Option (ℕ × ℕ)
spec_parse_more v none = none
spec_parse_more v (some p) =
    pick (both (ltb p.0 (2 ^ 64 - 1)) (both (ltb 0 p.1) (leb p.1 (n_bit_max_unsigned (8 * 8 - 7)))))
    (some (p.0 + 1, p.1 * 128 + v)) none

unfoldable pub spec_parse : List ℕ → Option (ℕ × ℕ)
spec_parse [] = none
spec_parse (b ∷ s) = pick (is_high_8_bit_set_lem b) (spec_parse_more (take_low_7_bits_lem b) (spec_parse s)) (some (1, take_low_7_bits_lem b))

-- the first number bounds how many bytes there can be: v itself is enough
unfoldable pub spec_serialize_within : ℕ → ℕ → List ℕ
spec_serialize_within zero v = take_low_7_bits_lem v ∷ []
spec_serialize_within (suc n) v =
    elim (eqb (v / 128) 0)
    [ true ↦ take_low_7_bits_lem v ∷ [] | false ↦ set_high_8_bit_lem (take_low_7_bits_lem v) ∷ spec_serialize_within n (v / 128) ]

unfoldable pub spec_serialize_helper : ℕ → List ℕ
spec_serialize_helper v = spec_serialize_within v v
