-- Whether a list is one item is decided.
--
--   item_or_none   an item stands at the front of a list, or none; `items_or_none`: the same of so many
--   good_or_not    a list is good, or not
use Prim.Native.Nat.{ℕ, zero, suc, ◌/◌, ◌%◌}
use mathlib.Core.List.{List, [], ◌∷◌}
use mathlib.Core.Logic.{◌⊎◌, inl, inr, ⊎_elim}
use mathlib.Core.Path.{◌≡◌}
use native.Mathlib.Omega.{arith}
use Rattle.words.proofs.Cases.{by_order}
use Rattle.phrases.specs.Grammar.{Phrase, nesting, Good}
use Rattle.phrases.specs.Inner.{OneAhead, SomeAhead}
use Rattle.phrases.proofs.OneReading.{one_item}
use Rattle.phrases.proofs.Ahead.{nothing_ahead, leaf_ahead, too_deep, branch_ahead, ahead_branch, none_ahead, more_ahead, ahead_more, no_first}

abbrev Decided : (List ℕ → List ℕ → Type 0) → List ℕ → Type 0
Decided P s = ((r : List ℕ) × P s r) ⊎ ((r : List ℕ) → P s r → ⊥)

items_or_none : (d : ℕ) → ((s : List ℕ) → Decided (OneAhead d) s) → (k : ℕ) (s : List ℕ) → Decided (SomeAhead d k) s
items_or_none d f zero s = inl (s, none_ahead)
items_or_none d f (suc k) s =
    ⊎_elim
    (λ x. ⊎_elim (λ y. inl (y.0, more_ahead x.1 y.1)) (λ n. inr (λ r z. n r (ahead_more x.1 z))) (items_or_none d f k x.0))
    (λ n. inr (λ r z. no_first n z)) (f s)

item_or_none : (d : ℕ) (s : List ℕ) → Decided (OneAhead d) s
item_or_none zero [] = inr (λ r. nothing_ahead)
item_or_none zero (n ∷ s) = by_order (n % 2) 1 (λ h. inl (s, leaf_ahead n h)) (λ h. inr (λ r. too_deep h))
item_or_none (suc d) [] = inr (λ r. nothing_ahead)
item_or_none (suc d) (n ∷ s) =
    by_order (n % 2) 1 (λ h. inl (s, leaf_ahead n h))
    (λ h. ⊎_elim (λ x. inl (x.0, branch_ahead h x.1)) (λ none. inr (λ r z. none r (ahead_branch h z))) (items_or_none d (λ t. item_or_none d t) (n / 2) s))

pub good_or_not : (s : List ℕ) → ((p : Phrase) × Good s p) ⊎ ((p : Phrase) → Good s p → ⊥)
good_or_not s = ⊎_elim (λ x. whole x.0 x.1) (λ f. inr (λ p y. f [] (p, y))) (item_or_none nesting s)
  where
    whole : (r : List ℕ) → OneAhead nesting s r → ((p : Phrase) × Good s p) ⊎ ((p : Phrase) → Good s p → ⊥)
    whole [] x = inl x
    whole (n ∷ r) x = inr (λ p y. let e : n ∷ r ≡ [] = (one_item x.1 y).1 in let z : ◌≡◌ {A = ℕ} 0 1 = cc in omega arith)
