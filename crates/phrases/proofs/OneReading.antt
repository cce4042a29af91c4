-- A list has one reading.
--
--   one_item, one_items   what stands at the front of a list, one item or so many, is one and ends at one place, whatever depths are allowed
use Prim.Native.Nat.{ℕ}
use mathlib.Core.List.{List}
use mathlib.Core.Path.{◌≡◌, refl, ap}
use native.Mathlib.Omega.{arith}
use Rattle.phrases.specs.Grammar.{Phrase, Phrases, sentence, phrase, Item, Items, leaf, branch, none, more}

mutual
  pub one_item : {d e : ℕ} {s r q : List ℕ} {p p' : Phrase} → Item d s p r → Item e s p' q → (p ≡ p') × (r ≡ q)
  one_item (leaf h) (leaf g) = (ap sentence (omega arith), refl)
  one_item (leaf h) (branch g ys) = absurd (omega arith)
  one_item (branch h xs) (leaf g) = absurd (omega arith)
  one_item (branch h xs) (branch g ys) = let w = one_items xs ys (omega arith) in (ap phrase w.0, w.1)

  pub one_items : {d e k j : ℕ} {s r q : List ℕ} {ps qs : Phrases} → Items d k s ps r → Items e j s qs q → k ≡ j → (ps ≡ qs) × (r ≡ q)
  one_items none none h = (refl, refl)
  one_items none (more y ys) h = absurd (omega arith)
  one_items (more x xs) none h = absurd (omega arith)
  one_items (more x xs) (more y ys) h =
      let v = one_item x y in
      let w = one_items xs (rw (← v.1) at ys) (omega arith) in
      (cc, w.1)
