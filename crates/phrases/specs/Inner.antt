-- What private functions ask and promise.
--
--   OneAhead d s r      the list s begins with an item in which at most d branches nest, and r is what stands behind it
--   SomeAhead d k s r   the same of k items, one after another
--   Passes P s at to    what P says of the list s from the place at on ends at the place to; if there is none, nothing does
--   even n              whether a number is even
--   halves s            the halves of the even numbers, in order
use Rattle.std.specs.Prelude.{ℕ, ◌/◌, ◌%◌, ◌==◌, ◌≤◌, Bool, List, length, drop, map, filter, Option, Some, None}
use Rattle.phrases.specs.Grammar.{Phrase, Phrases, Item, Items}

abbrev pub OneAhead : ℕ → List ℕ → List ℕ → Type 0
OneAhead d s r = (p : Phrase) × Item d s p r

abbrev pub SomeAhead : ℕ → ℕ → List ℕ → List ℕ → Type 0
SomeAhead d k s r = (ps : Phrases) × Items d k s ps r

pub data Passes (P : List ℕ → List ℕ → Type 0) (s : List ℕ) (at : ℕ) : Option ℕ → Type 0 where
  found : {to : ℕ} → to ≤ length s → P (drop at s) (drop to s) → Passes P s at (Some to)
  missed : ((r : List ℕ) → P (drop at s) r → ⊥) → Passes P s at None

abbrev pub even : ℕ → Bool
even n = n % 2 == 0

unfoldable pub halves : List ℕ → List ℕ
halves s = map (λ n. n / 2) (filter even s)
