-- What is left of a block, from a place to another.
--
--   Left s to at vs   from the place at on, numbers of 64 bits stand in s one behind another up to the place to: vs
--   ends b            a byte is below 128, so that a group ends there
--   lows l            how many of the bytes l are, and so how many groups end in it
use Rattle.std.specs.Prelude.{ℕ, ◌+◌, Bool, List, [], ◌∷◌, ◌≡◌, ltb, drop, count_by}
use Rattle.words.specs.Answer.{gives}
use Rattle.groups.specs.Width.{reading}
use Rattle.uleb128.specs.Unsigned.{u64}

pub data Left (s : List ℕ) (to : ℕ) : ℕ → List ℕ → Type 0 where
  done : Left s to to []
  one : {at v n : ℕ} {vs : List ℕ} → reading u64 (drop at s) ≡ gives (v, n) → Left s to (at + n) vs → Left s to at (v ∷ vs)

abbrev pub ends : ℕ → Bool
ends b = ltb b 128

abbrev pub lows : List ℕ → ℕ
lows l = count_by ends l
