-- Eight bytes as one number.
--
--   based b g      the number whose digits in the base b are g, lowest first
--   little g       the bytes g as one number, low byte first
--   spread n w     the n low bytes of w
--   each f g       f of each element
--   low, top, mark a byte's seven bits; its high bit; its high bit turned over
--   zeros g        how many zeros stand at the front; `more_zeros b n`: with b in front of n of them
--   smalls g       how many bytes below 128 stand at the front
--   Below k g      each element is below k
--   Flags g        each element is 0 or 128
use Rattle.std.specs.Prelude.{ℕ, zero, suc, ◌+◌, ◌-◌, ◌*◌, ◌/◌, ◌%◌, ◌<◌, List, [], ◌∷◌, ltb}
use Rattle.words.specs.Answer.{pick}

unfoldable pub based : ℕ → List ℕ → ℕ
based b [] = 0
based b (d ∷ g) = d + b * based b g

abbrev pub little : List ℕ → ℕ
little g = based 256 g

unfoldable pub spread : ℕ → ℕ → List ℕ
spread zero w = []
spread (suc n) w = (w % 256) ∷ spread n (w / 256)

unfoldable pub each : (ℕ → ℕ) → List ℕ → List ℕ
each f [] = []
each f (b ∷ g) = f b ∷ each f g

abbrev pub low : ℕ → ℕ
low b = b % 128

abbrev pub top : ℕ → ℕ
top b = b / 128 * 128

abbrev pub mark : ℕ → ℕ
mark b = 128 - b / 128 * 128

abbrev pub more_zeros : ℕ → ℕ → ℕ
more_zeros zero n = suc n
more_zeros (suc b) n = 0

unfoldable pub zeros : List ℕ → ℕ
zeros [] = 0
zeros (b ∷ g) = more_zeros b (zeros g)

unfoldable pub smalls : List ℕ → ℕ
smalls [] = 0
smalls (b ∷ g) = pick (ltb b 128) (suc (smalls g)) 0

abbrev pub Below : ℕ → List ℕ → Type 0
Below k [] = Unit
Below k (b ∷ g) = (b < k) × Below k g

pub data Flags : List ℕ → Type 0 where
  none : Flags []
  clear : {g : List ℕ} → Flags g → Flags (0 ∷ g)
  flag : {g : List ℕ} → Flags g → Flags (128 ∷ g)
