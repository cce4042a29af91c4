-- Things of a block as lists, each with its place and its count of bytes: the groups, and what a reader gives of them.
--
--   placed p gs        the groups gs, one after another, the first at the place p
--   listed s           the groups of the block s
--   ending reach n l   those of a list that end so many bytes before n, or earlier
--   from n l           those that begin at n or later
--   less n l           the same things, their places less n
use Rattle.std.specs.Prelude.{ℕ, ◌+◌, ◌-◌, List, [], ◌∷◌, leb, length}
use Rattle.words.specs.Answer.{pick}
use Rattle.blocks.specs.GroupsAndTail.{cut}

abbrev pub placed : ℕ → List (List ℕ) → List (ℕ × ℕ × List ℕ)
placed p [] = []
placed p (g ∷ gs) = (p, length g, g) ∷ placed (p + length g) gs

abbrev pub listed : List ℕ → List (ℕ × ℕ × List ℕ)
listed s = placed 0 (cut s).groups

abbrev pub ending : {A : Type 0} → ℕ → ℕ → List (ℕ × ℕ × A) → List (ℕ × ℕ × A)
ending reach n [] = []
ending reach n (k ∷ l) = pick (leb (k.0 + k.1 + reach) n) (k ∷ ending reach n l) (ending reach n l)

abbrev pub from : {A : Type 0} → ℕ → List (ℕ × ℕ × A) → List (ℕ × ℕ × A)
from n [] = []
from n (k ∷ l) = pick (leb n k.0) (k ∷ from n l) (from n l)

abbrev pub less : {A : Type 0} → ℕ → List (ℕ × ℕ × A) → List (ℕ × ℕ × A)
less n [] = []
less n (k ∷ l) = (k.0 - n, k.1, k.2) ∷ less n l
