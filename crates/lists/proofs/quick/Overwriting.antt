-- Stores one over another, and apart.
--
--   sets_apart     stores that don't meet may go in either order
--   sets_gone_on   stores that go on behind others, over what those stored too much, are all the stores at once
use Prim.Native.Nat.{ℕ, suc, ◌+◌, ◌≤◌, ◌<◌}
use mathlib.Core.Path.{◌≡◌, refl, ap, sym, ◌∙◌}
use mathlib.Core.List.{List, [], ◌∷◌, ◌++◌}
use native.Mathlib.Omega.{arith}
use lib.ListN.{length, set}
use lib.Seq.{sets, set-set, set_comm}
use Rattle.words.proofs.Lays.{sets_append}

-- a store in front of others, before or after them
set_below : (l : List ℕ) (i a p : ℕ) (g : List ℕ) → i < p → set (sets l p g) i a ≡ sets (set l i a) p g
set_below l i a p [] h = refl
set_below l i a p (b ∷ g) h =
    set_below (set l p b) i a (suc p) g (omega arith) ∙ ap (λ (k : List ℕ). sets k (suc p) g) (set_comm l p i b a (λ e. omega arith))

pub sets_apart : (l : List ℕ) (p : ℕ) (g : List ℕ) (q : ℕ) (h : List ℕ) → p + length g ≤ q → sets (sets l q h) p g ≡ sets (sets l p g) q h
sets_apart l p [] q h e = refl
sets_apart l p (b ∷ g) q h e =
    ap (λ (k : List ℕ). sets k (suc p) g) (set_below l p b q h (omega arith)) ∙ sets_apart (set l p b) (suc p) g q h (omega arith)

-- stores that others overwrite
sets_over : (l : List ℕ) (p : ℕ) (g h : List ℕ) → length g ≤ length h → sets (sets l p g) p h ≡ sets l p h
sets_over l p [] h e = refl
sets_over l p (b ∷ g) [] e = absurd (omega arith)
sets_over l p (b ∷ g) (c ∷ h) e =
    ap (λ (k : List ℕ). sets k (suc p) h) (set_below (set l p b) p c (suc p) g (omega arith))
    ∙ ap (λ (k : List ℕ). sets (sets k (suc p) g) (suc p) h) (set-set l p b c)
    ∙ sets_over (set l p c) (suc p) g h (omega arith)

pub sets_gone_on : (l g junk rest : List ℕ) (p : ℕ) {out vs : List ℕ} {q : ℕ} → out ≡ sets l p (g ++ junk) → q ≡ p + length g → vs ≡ g ++ rest
    → length junk ≤ length rest → sets out q rest ≡ sets l p vs
sets_gone_on l g junk rest p e i s h =
    rw (e, i, s, sets_append g junk l p, sets_over (sets l p g) (p + length g) junk rest h) (sym (sets_append g rest l p))
