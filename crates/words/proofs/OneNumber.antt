-- No two refusals share a number. The variants' numbers rise as they stand in the enum, which one test says of them all: no proof goes by
-- cases over the refusals, and a new one needs no clause here.
--
--   refusal_of     the refusal of a number
--   refusal_back   a refusal's number leads back to it
--   same_refusal   so no two refusals share a number
use Prim.Native.Nat.{ℕ, suc, ◌≤◌}
use mathlib.Core.Bool.{Bool, true, false}
use mathlib.Core.List.{List, [], ◌∷◌}
use mathlib.Core.Logic.{inl, inr}
use mathlib.Core.Path.{◌≡◌, refl, ap, sym, ◌∙◌}
use native.Mathlib.Omega.{arith}
use borrow.Author.Tests.{leb-true, eq-eqb, ne_eqb}
use denote.Enum.Declared.{Choice}
use denote.Struct.Field.{Field}
use lib.Dec.{eqb, leb}
use Rattle.words.specs.Answer.{pick, both}
use Rattle.words.specs.Refusal.{number_of}
use Rattle.words.specs.declared.Refusal.{Refusal}
use Rattle.words.specs.declared.Refusal.TheVariants.{End}
use Rattle.words.proofs.Cases.{both_true, clash}
use Rattle.words.specs.contracts.Refusal.{the_parts as parts, as_values, the_make as make, the_eta as eta}

-- the first of some variants without fields that has the number n
abbrev find : (Fss : List (List Field)) → (Choice Fss → Refusal) → ℕ → Refusal
find [] f n = End
find ([] ∷ Fss) f n = pick (eqb (number_of (f (inl tt))) n) (f (inl tt)) (find Fss (λ c. f (inr c)) n)
find ((F ∷ Fs) ∷ Fss) f n = End

-- their numbers rise, from n on
abbrev rising : (Fss : List (List Field)) → (Choice Fss → Refusal) → ℕ → Bool
rising [] f n = true
rising ([] ∷ Fss) f n = both (leb n (number_of (f (inl tt)))) (rising Fss (λ c. f (inr c)) (suc (number_of (f (inl tt)))))
rising ((F ∷ Fs) ∷ Fss) f n = false

find_back : (Fss : List (List Field)) (f : Choice Fss → Refusal) (n : ℕ) → rising Fss f n ≡ true → (c : Choice Fss)
    → (n ≤ number_of (f c)) × (find Fss f (number_of (f c)) ≡ f c)
find_back [] f n e c = absurd c
find_back ((F ∷ Fs) ∷ Fss) f n e c = clash refl e
find_back ([] ∷ Fss) f n e (inl tt) =
    let k = number_of (f (inl tt)) in
    let t = both_true (leb n k) (rising Fss (λ c. f (inr c)) (suc k)) e in
    (leb-true n k t.0, rw (eq-eqb k k refl))
find_back ([] ∷ Fss) f n e (inr c) =
    let k = number_of (f (inl tt)) in
    let t = both_true (leb n k) (rising Fss (λ c. f (inr c)) (suc k)) e in
    let q = find_back Fss (λ c. f (inr c)) (suc k) t.1 c in
    let above : k ≡ number_of (f (inr c)) → ⊥ = λ i. omega (arith, q.0) in
    (omega (arith, leb-true n k t.0, q.0), rw (ne_eqb k (number_of (f (inr c))) above) q.1)

abbrev pub refusal_of : ℕ → Refusal
refusal_of n = find parts make n

pub refusal_back : (a : Refusal) → refusal_of (number_of a) ≡ a
refusal_back a =
    let i : number_of (make (as_values a)) ≡ number_of a = ap number_of (eta a) in
    ap refusal_of (sym i) ∙ (find_back parts make 1 refl (as_values a)).1 ∙ eta a

pub same_refusal : (a b : Refusal) → number_of a ≡ number_of b → a ≡ b
same_refusal a b e = sym (refusal_back a) ∙ ap refusal_of e ∙ refusal_back b
