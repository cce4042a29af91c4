-- What the functions inside the crate promise.
--
--   Tells P t           the test t says whether P
--   FirstMark s p r     r is the place of the least mark at p or later, if there is one
--   Hears l r           r says which entry's numbers the bytes l begin with, and the count of their bytes; or they begin with none's
use Rattle.std.specs.Prelude.{ℕ, ◌≤◌, ◌<◌, Bool, true, false, List, length, drop, Option, Some, None, MatchOption}
use Rattle.blocks.specs.GroupsAndTail.{GroupAt}
use Rattle.entries.specs.Saying.{SaysEntry}
use Rattle.entries.specs.Standing.{mark}
use Rattle.entries.specs.declared.Entry.{Entry}

abbrev pub Tells : Type 0 → Bool → Type 0
Tells P true = P
Tells P false = P → ⊥

pub record FirstMark (s : List ℕ) (p : ℕ) (r : Option ℕ) : Type 0 where
  pub is : MatchOption r ((q : ℕ) → p ≤ q → q < length s → GroupAt s q mark → ⊥)
      (λ m. (p ≤ m) × (m < length s) × GroupAt s m mark × ((q : ℕ) → p ≤ q → q < m → GroupAt s q mark → ⊥))

abbrev pub Hears : List ℕ → Option (Entry × ℕ) → Type 0
Hears l (Some (x, n)) = (n ≤ length l) × SaysEntry l x (drop n l)
Hears l None = (x : Entry) (rest : List ℕ) → SaysEntry l x rest → ⊥
