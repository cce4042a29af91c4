-- What stands at the front of a list, line by line of the grammar.
--
--   nothing_ahead               no numbers are no item
--   leaf_ahead                  an even number is an item
--   too_deep                    an odd number is none where no branch may nest
--   branch_ahead, ahead_branch  an odd number is one exactly if as many as it says stand behind it
--   none_ahead                  no items take no number
--   more_ahead, ahead_more      where an item stands, there are k items behind it exactly if there are k + 1 from it on
--   no_first                    where none stands, there aren't k + 1
use Prim.Native.Nat.{ℕ, suc, ◌/◌, ◌%◌, ◌<◌, ◌≤◌}
use mathlib.Core.List.{List, [], ◌∷◌}
use mathlib.Core.Path.{◌≡◌}
use native.Mathlib.Omega.{arith}
use Rattle.phrases.specs.Grammar.{nil, cons, leaf, branch, none, more}
use Rattle.phrases.specs.Inner.{OneAhead, SomeAhead}
use Rattle.phrases.proofs.OneReading.{one_item}

pub nothing_ahead : {d : ℕ} {r : List ℕ} → OneAhead d [] r → ⊥
nothing_ahead (p, x) = elim x [ ]

pub leaf_ahead : {d : ℕ} (n : ℕ) {r : List ℕ} → n % 2 < 1 → OneAhead d (n ∷ r) r
leaf_ahead n h = (_, leaf {n = n} {m = n / 2} (omega arith))

pub too_deep : {n : ℕ} {s r : List ℕ} → 1 ≤ n % 2 → OneAhead 0 (n ∷ s) r → ⊥
too_deep h (p, leaf e) = omega arith

pub branch_ahead : {d n : ℕ} {s r : List ℕ} → 1 ≤ n % 2 → SomeAhead d (n / 2) s r → OneAhead (suc d) (n ∷ s) r
branch_ahead {n = n} h (ps, xs) = (_, branch {n = n} {k = n / 2} (omega arith) xs)

pub ahead_branch : {d n : ℕ} {s r : List ℕ} → 1 ≤ n % 2 → OneAhead (suc d) (n ∷ s) r → SomeAhead d (n / 2) s r
ahead_branch h (p, leaf e) = absurd (omega arith)
ahead_branch {n = n} h (p, branch {k = k} {ps = ps} e xs) = let i : k ≡ n / 2 = omega arith in (ps, rw i at xs)

pub none_ahead : {d : ℕ} {r : List ℕ} → SomeAhead d 0 r r
none_ahead = (nil, none)

pub more_ahead : {d k : ℕ} {s t r : List ℕ} → OneAhead d s t → SomeAhead d k t r → SomeAhead d (suc k) s r
more_ahead (p, x) (ps, xs) = (cons p ps, more x xs)

pub ahead_more : {d k : ℕ} {s t r : List ℕ} → OneAhead d s t → SomeAhead d (suc k) s r → SomeAhead d k t r
ahead_more (p, x) (qs, more {ps = ps} y ys) = (ps, rw (← (one_item x y).1) at ys)

pub no_first : {d k : ℕ} {s r : List ℕ} → ((t : List ℕ) → OneAhead d s t → ⊥) → SomeAhead d (suc k) s r → ⊥
no_first f (qs, more {t = t} y ys) = f t (_, y)
