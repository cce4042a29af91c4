-- Texts as bytes, and how they are laid down in a buffer.
--
--   ascii t                  the bytes of a text in ASCII; `codes n t i`: of its n characters from the place i on
--   decimal v                the number v in decimal: one digit if v < 10, else the digits of v div 10 and then that of v mod 10; `decimal_within`: the same, over a
--                            bound on how many there can be
--   LaysText t s n r s'      n bytes of the buffer s are filled: as many bytes of the text t as there is room for stand behind them, all else is kept, and r is how
--                            many then are filled
--   LaysDecimal v s n r s'   so stands the number v in decimal
--   Lays t x y               so stands the text t in y, where x was: behind what x has filled, in the same buffer
--   LaysNumber v x y         so stands the number v in decimal
use Prim.Native.Char.{code}
use Prim.Native.String.{String, len, char_at}
use Rattle.std.specs.Prelude.{ℕ, zero, suc, ◌+◌, ◌-◌, ◌/◌, ◌%◌, true, false, List, [], ◌∷◌, ◌++◌, ◌≡◌, ltb, length, take}
use Rattle.std.proofs.lemmas.List.Edits.{sets}
use Rattle.texts.specs.declared.Text.{Text}

-- n characters from the place i on
abbrev pub codes : ℕ → String → ℕ → List ℕ
codes zero t i = []
codes (suc n) t i = code (char_at t i) ∷ codes n t (i + 1)

abbrev pub ascii : String → List ℕ
ascii t = codes (len t) t 0

-- the first number bounds how many digits there can be: v itself is enough
unfoldable pub decimal_within : ℕ → ℕ → List ℕ
decimal_within zero v = (48 + v) ∷ []
decimal_within (suc n) v =
    elim (ltb v 10) [ true ↦ (48 + v) ∷ [] | false ↦ decimal_within n (v / 10) ++ (48 + v % 10) ∷ [] ]

unfoldable pub decimal : ℕ → List ℕ
decimal v = decimal_within v v

pub record LaysText (t s : List ℕ) (n r : ℕ) (s' : List ℕ) : Type 0 where
  pub count : r ≡ n + length (take (length s - n) t)
  pub bytes : s' ≡ sets s n (take (length s - n) t)

abbrev pub LaysDecimal : ℕ → List ℕ → ℕ → ℕ → List ℕ → Type 0
LaysDecimal v s n r s' = LaysText (decimal v) s n r s'

pub record Lays (t : List ℕ) (x y : Text) : Type 0 where
  pub lent : y.buffer.ghost_name ≡ x.buffer.ghost_name
  pub laid : LaysText t x.buffer.now x.filled.0 y.filled.0 y.buffer.now

abbrev pub LaysNumber : ℕ → Text → Text → Type 0
LaysNumber v x y = Lays (decimal v) x y
