-- What the sound scan tells of a block, from each byte and those before it.
--
--   High9 s k         nine bytes from the place k on are 128 or more
--   Spare s j         the byte at j is 0, and the one before it is 128 or more: it is one too many
--   Large s j         the byte at j is above 1, and the nine before it are 128 or more: with it a number is too large
--   Unmarked s        no byte behind the first nine is spare, and none too large
--   UnmarkedEarly s   no byte of the first nine is spare
--   Clean s           no byte is spare, none too large, and the last one is below 128
use Rattle.std.specs.Prelude.{ℕ, ◌+◌, ◌-◌, ◌≤◌, ◌<◌, List, ◌≡◌, length, get_or}

abbrev pub High9 : List ℕ → ℕ → Type 0
High9 s k = (i : ℕ) → i < 9 → 128 ≤ get_or s (k + i) 0

pub record Spare (s : List ℕ) (j : ℕ) : Type 0 where
  pub high : 128 ≤ get_or s (j - 1) 0
  pub zero : get_or s j 0 ≡ 0

pub record Large (s : List ℕ) (j : ℕ) : Type 0 where
  pub high : High9 s (j - 9)
  pub over : 1 < get_or s j 0

abbrev pub Unmarked : List ℕ → Type 0
Unmarked s = (j : ℕ) → 9 ≤ j → j < length s → (Spare s j → ⊥) × (Large s j → ⊥)

abbrev pub UnmarkedEarly : List ℕ → Type 0
UnmarkedEarly s = (j : ℕ) → 0 < j → j < 9 → j < length s → Spare s j → ⊥

pub record Clean (s : List ℕ) : Type 0 where
  pub ended : 0 < length s → get_or s (length s - 1) 0 < 128
  pub later : Unmarked s
  pub early : UnmarkedEarly s
