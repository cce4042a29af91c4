-- How bytes spell a number, seven bits a byte, lowest first, all but the last with 128 added. Below zero each seven bits are
-- those of the two's complement: with m for -v-1, 127 less those of m.
--
--   say below d           seven bits, or below zero their complement
--   spell below small m   as many bytes as it takes until what is left is below small; `spellings`: the same, over a bound on how many there can be
--   below v               v is below zero
--   spelling n            the bytes of a number by its kind: unsigned until what is left is below 128, signed until it is below 64
--   growth                the nine values at which a 64-bit number grows by a byte
use Rattle.std.specs.Prelude.{ℕ, zero, suc, ◌+◌, ◌-◌, ◌/◌, ◌%◌, List, [], ◌∷◌, Bool, true, false, ltb, ℤ, pos, negsuc}
use Rattle.std.specs.Int.Signed.{mag}
use Rattle.groups.specs.declared.Value.{Value}
use Rattle.groups.specs.declared.Value.TheVariants.{Unsigned, Signed}

abbrev pub say : Bool → ℕ → ℕ
say false d = d
say true d = 127 - d

-- the first number bounds how many bytes there can be: m itself is enough
unfoldable pub spellings : Bool → ℕ → ℕ → ℕ → List ℕ
spellings below small zero m = say below m ∷ []
spellings below small (suc n) m =
    elim (ltb m small) [ true ↦ say below m ∷ [] | false ↦ (128 + say below (m % 128)) ∷ spellings below small n (m / 128) ]

unfoldable pub spell : Bool → ℕ → ℕ → List ℕ
spell below small m = spellings below small m m

abbrev pub below : ℤ → Bool
below (pos n) = false
below (negsuc n) = true

abbrev pub spelling : Value → List ℕ
spelling (Unsigned v) = spell false 128 v
spelling (Signed v) = spell (below v) 64 (mag v)

-- document 01's list
abbrev pub growth : List ℕ
growth =
    128 ∷ 16384 ∷ 2097152 ∷ 268435456 ∷ 34359738368 ∷ 4398046511104 ∷ 562949953421312 ∷ 72057594037927936 ∷ 9223372036854775808 ∷ []
