-- Good lists are the numbers of what nests at most 8 deep.
--
--   item_spelled     what an item says is spelled as its numbers, and nests as deep as it may; `items_spelled`: the same of several
--   spelled_item     and what nests so deep is an item, whatever stands behind it; `spelled_items`: the same of several
--   phrase_spelled   so of a good list
--   no_front         and more numbers behind it are behind the item, so that only itself is good
use Prim.Native.Nat.{ℕ, zero, suc, ◌+◌, ◌*◌, ◌≤◌}
use mathlib.Core.List.{List, [], ◌++◌, append_assoc, append-nil}
use mathlib.Core.Path.{◌≡◌, refl, ap, sym, ◌∙◌}
use native.Mathlib.Omega.{arith}
use Rattle.phrases.specs.Grammar.{Phrase, Phrases, sentence, phrase, nil, cons, Item, Items, leaf, branch, none, more}
use Rattle.phrases.proofs.OneReading.{one_item}
use Rattle.claims.specs.OfPhrases.{many, spelled, spelled_of, depth, deepest, SpelledPhrase, NoFront}

mutual
  unfolding spelled depth

  item_spelled : {d : ℕ} {s r : List ℕ} {p : Phrase} → Item d s p r → (s ≡ spelled p ++ r) × (depth p ≤ d)
  item_spelled (leaf e) = (cc, omega arith)
  item_spelled (branch {n = n} {ps = ps} e xs) =
      let w = items_spelled xs in
      let i : n ≡ 2 * many ps + 1 = omega (arith, w.1) in
      (rw (i, w.0), omega (arith, w.2))

  items_spelled : {d k : ℕ} {s r : List ℕ} {ps : Phrases} → Items d k s ps r → (s ≡ spelled_of ps ++ r) × (k ≡ many ps) × (deepest ps ≤ d)
  items_spelled none = (refl, refl, omega arith)
  items_spelled (more {r = r} {p = p} {ps = ps} x xs) =
      let v = item_spelled x in
      let w = items_spelled xs in
      (v.0 ∙ ap (λ l. spelled p ++ l) w.0 ∙ sym (append_assoc (spelled p) (spelled_of ps) r), ap suc w.1, omega (arith, v.1, w.2))

mutual
  unfolding spelled depth

  spelled_item : (p : Phrase) (d : ℕ) → depth p ≤ d → (r : List ℕ) → Item d (spelled p ++ r) p r
  spelled_item (sentence m) d h r = leaf refl
  spelled_item (phrase ps) zero h r = absurd (omega arith)
  spelled_item (phrase ps) (suc d) h r = branch refl (spelled_items ps d (omega arith) r)

  spelled_items : (ps : Phrases) (d : ℕ) → deepest ps ≤ d → (r : List ℕ) → Items d (many ps) (spelled_of ps ++ r) ps r
  spelled_items nil d h r = none
  spelled_items (cons p ps) d h r =
      rw (append_assoc (spelled p) (spelled_of ps) r) (more (spelled_item p d (omega arith) (spelled_of ps ++ r)) (spelled_items ps d (omega arith) r))

pub phrase_spelled : SpelledPhrase
phrase_spelled s p = (
  λ x. let w = item_spelled x in (w.0 ∙ append-nil (spelled p), w.1),
  λ w. rw (w.0 ∙ sym (append-nil (spelled p))) (spelled_item p 8 w.1 []),
)

pub no_front : NoFront
no_front s t p q x y =
    let w = (phrase_spelled s p).0 x in
    let z : Item 8 (s ++ t) p t = rw w.0 (spelled_item p 8 w.1 t) in
    (one_item z y).1
