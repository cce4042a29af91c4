-- Lists in order: what is in one tells it.
--
--   in_from       what is in a list that grows from n on stands at n or later
--   ordered_up    a list that grows from n on grows from what is less, too
--   same_list     lists in order with the same things in them are equal
--   same_triple   triples are equal where their parts are
use Prim.Native.Nat.{ℕ, suc, ◌≤◌}
use mathlib.Core.Path.{◌≡◌, refl, ap, sym, ◌∙◌, subst}
use mathlib.Core.List.{List, [], ◌∷◌}
use mathlib.Core.Logic.{inl, inr, ⊎_elim, ◌↔◌}
use native.Mathlib.Omega.{arith}
use Rattle.entries.specs.Given.{In, Ordered}

module _ {A : Type 0} where
  pub in_from : (n : ℕ) (l : List (ℕ × ℕ × A)) (k : ℕ × ℕ × A) → Ordered n l → In k l → n ≤ k.0
  in_from n [] k o i = absurd i
  in_from n (x ∷ l) k o i =
      ⊎_elim (λ (e : k ≡ x). omega (arith, o.0, ap (λ (y : ℕ × ℕ × A). y.0) e)) (λ (j : In k l). omega (arith, o.0, in_from (suc x.0) l k o.1 j)) i

  pub ordered_up : (m n : ℕ) (l : List (ℕ × ℕ × A)) → m ≤ n → Ordered n l → Ordered m l
  ordered_up m n [] h o = tt
  ordered_up m n (x ∷ l) h o = (omega (arith, o.0), o.1)

  -- behind the first, the same things
  tails : (k : ℕ × ℕ × A) (l l' : List (ℕ × ℕ × A)) → Ordered (suc k.0) l → ((x : ℕ × ℕ × A) → In x (k ∷ l) → In x (k ∷ l')) → (x : ℕ × ℕ × A) → In x l → In x l'
  tails k l l' o f x i =
      ⊎_elim (λ (e : x ≡ k). absurd (omega (arith, in_from (suc k.0) l x o i, ap (λ (y : ℕ × ℕ × A). y.0) e))) (λ (j : In x l'). j) (f x (inr i))

  -- and the first is the same
  firsts : (k k' : ℕ × ℕ × A) (l l' : List (ℕ × ℕ × A)) → Ordered (suc k.0) l → Ordered (suc k'.0) l' → In k (k' ∷ l') → In k' (k ∷ l) → k ≡ k'
  firsts k k' l l' o o' f g =
      ⊎_elim (λ (e : k ≡ k'). e)
      (λ (i : In k l').
      ⊎_elim (λ (e : k' ≡ k). sym e)
      (λ (j : In k' l). absurd (omega (arith, in_from (suc k'.0) l' k o' i, in_from (suc k.0) l k' o j)))
      g)
      f

  pub same_list : (n n' : ℕ) (l l' : List (ℕ × ℕ × A)) → Ordered n l → Ordered n' l' → ((x : ℕ × ℕ × A) → In x l ↔ In x l') → l ≡ l'
  same_list n n' [] [] o o' f = refl
  same_list n n' [] (k ∷ l') o o' f = absurd ((f k).1 (inl refl))
  same_list n n' (k ∷ l) [] o o' f = absurd ((f k).0 (inl refl))
  same_list n n' (k ∷ l) (k' ∷ l') o o' f =
      let e : k ≡ k' = firsts k k' l l' o.1 o'.1 ((f k).0 (inl refl)) ((f k').1 (inl refl)) in
      let o'' : Ordered (suc k.0) l' = subst (λ (j : ℕ × ℕ × A). Ordered (suc j.0) l') (sym e) o'.1 in
      let g : (x : ℕ × ℕ × A) → In x (k ∷ l) ↔ In x (k ∷ l') = subst (λ (j : ℕ × ℕ × A). (x : ℕ × ℕ × A) → In x (k ∷ l) ↔ In x (j ∷ l')) (sym e) f in
      ap (λ (j : ℕ × ℕ × A). j ∷ l) e ∙ ap (λ (t : List (ℕ × ℕ × A)). k' ∷ t)
      (same_list (suc k.0) (suc k.0) l l' o.1 o'' (λ x. (tails k l l' o.1 (λ y. (g y).0) x, tails k l' l o'' (λ y. (g y).1) x)))

pub same_triple : {A : Type 0} {m m' n n' : ℕ} {v v' : A} → m ≡ m' → n ≡ n' → v ≡ v' → ◌≡◌ {A = ℕ × ℕ × A} (m, n, v) (m', n', v')
same_triple e f g = rw (e, f, g)
