-- The sentences of an item's leaves are the halves of its even numbers.
--
--   good_halves   those of a good list are all of them
use Prim.Native.Nat.{ℕ, ◌+◌, ◌*◌, ◌/◌, ◌%◌}
use mathlib.Core.List.{List, ◌∷◌, ◌++◌, append_assoc, append-nil}
use mathlib.Core.Path.{◌≡◌, refl, ap, sym, ◌∙◌}
use native.Mathlib.Omega.{arith}
use Rattle.phrases.specs.Grammar.{Phrase, Phrases, Item, Items, leaf, branch, none, more, Good, sentences, sentences_of}
use Rattle.phrases.specs.Inner.{halves}

even_halves : (n m : ℕ) (s : List ℕ) → n ≡ 2 * m → halves (n ∷ s) ≡ m ∷ halves s
unfolding halves
even_halves n m s e = let h : n / 2 ≡ m = omega arith in let i : n % 2 ≡ 0 = omega arith in simp (i, h)

odd_halves : (n k : ℕ) (s : List ℕ) → n ≡ 2 * k + 1 → halves (n ∷ s) ≡ halves s
unfolding halves
odd_halves n k s e = let i : n % 2 ≡ 1 = omega arith in simp i

mutual
  unfolding sentences

  item_halves : {d : ℕ} {s r : List ℕ} {p : Phrase} → Item d s p r → halves s ≡ sentences p ++ halves r
  item_halves (leaf {n = n} {m = m} {r = r} e) = even_halves n m r e
  item_halves (branch {n = n} {k = k} {s = s} e xs) = odd_halves n k s e ∙ items_halves xs

  items_halves : {d k : ℕ} {s r : List ℕ} {ps : Phrases} → Items d k s ps r → halves s ≡ sentences_of ps ++ halves r
  items_halves none = refl
  items_halves (more {r = r} {p = p} {ps = ps} x xs) =
      item_halves x ∙ ap (λ (l : List ℕ). sentences p ++ l) (items_halves xs) ∙ sym (append_assoc (sentences p) (sentences_of ps) (halves r))

pub good_halves : {s : List ℕ} {p : Phrase} → Good s p → halves s ≡ sentences p
unfolding halves
good_halves {p = p} x = item_halves x ∙ append-nil (sentences p)
