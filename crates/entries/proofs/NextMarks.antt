-- Marks: by their bytes, and the search for the next one.
--
--   mark_group                                     a mark is a group
--   mark_inside, mark_high, mark_low, mark_start   what a mark's bytes are, and the one before it
--   mark_there                                     where they stand so, there is a mark
--   mark_in_front, mark_told                       so where the bytes from a place on begin with them: at the front, and behind a byte that one tells
--   told_yes, told_no                              what a test tells
--   next_within                                    the next mark, or the end, is no further than the end
--   one_next                                       there is one next mark
--   next_here                                      a mark at the place itself is the next one
--   next_is, next_none                             the next one is a mark where it stands before the end, and where it doesn't, there is none
--   some_next                                      there is a next mark, or the end
--   first_next, first_none, first_or_end           what `next_mark` answers: the next mark; that there is none; the next mark, or the end
use Prim.Native.Nat.{ℕ, zero, suc, ◌+◌, ◌-◌, ◌≤◌, ◌<◌}
use mathlib.Core.Path.{◌≡◌, refl, ap, sym, ◌∙◌}
use mathlib.Core.List.{List, [], ◌∷◌}
use mathlib.Core.Bool.{Bool, true, false, not}
use mathlib.Core.Logic.{◌⊎◌, inl, inr, ⊎_elim}
use native.Mathlib.Omega.{arith}
use borrow.Author.Tests.{lt-ltb}
use lib.Dec.{ltb}
use lib.ListN.{length, get_or, take, drop, length-drop}
use lib.Seq.{get_or-drop, take-length}
use Rattle.std.specs.Prelude.{Option, Some, None}
use Rattle.std.specs.List.{slice_range}
use Rattle.std.specs.Option.{unwrap_or}
use Rattle.words.proofs.Cases.{by_order, by_test}
use Rattle.bits.specs.Macros.{is_high_8_bit_set_lem}
use Rattle.bits.proofs.HighBit.{bit_clear, bit_set}
use Rattle.groups.specs.Group.{Group, one, more}
use Rattle.blocks.specs.GroupsAndTail.{GroupAt}
use Rattle.entries.specs.Standing.{mark, NextMark}
use Rattle.entries.specs.Inner.{Tells, FirstMark}

pub mark_group : Group mark
mark_group = more {b = 128} {g = 0 ∷ []} (omega arith) (omega arith) (one {b = 0} (omega arith))

two : (l : List ℕ) → take 2 l ≡ mark → (get_or l 0 0 ≡ 128) × (get_or l 1 0 ≡ 0) × (2 ≤ length l)
two [] e = let z : ◌≡◌ {A = ℕ} 0 2 = ap length e in absurd (omega arith)
two (b ∷ []) e = let z : ◌≡◌ {A = ℕ} 1 2 = ap length e in absurd (omega arith)
two (b ∷ c ∷ l) e = (ap (λ (t : List ℕ). get_or t 0 0) e, ap (λ (t : List ℕ). get_or t 1 0) e, omega arith)

two_there : (l : List ℕ) → get_or l 0 0 ≡ 128 → get_or l 1 0 ≡ 0 → 2 ≤ length l → take 2 l ≡ mark
two_there [] e f h = absurd (omega arith)
two_there (b ∷ []) e f h = absurd (omega arith)
two_there (b ∷ c ∷ l) e f h = rw (e, f)

module _ {s : List ℕ} {p : ℕ} (k : GroupAt s p mark) where
  pub mark_inside : p + 2 ≤ length s
  mark_inside = omega (arith, (two (drop p s) k.there).2, length-drop p s)

  pub mark_high : get_or s p 0 ≡ 128
  mark_high = let i : p + 0 ≡ p = omega arith in ap (λ (j : ℕ). get_or s j 0) (sym i) ∙ sym (get_or-drop p s 0 0) ∙ (two (drop p s) k.there).0

  pub mark_low : get_or s (p + 1) 0 ≡ 0
  mark_low = sym (get_or-drop p s 1 0) ∙ (two (drop p s) k.there).1

  pub mark_start : 1 ≤ p → get_or s (p - 1) 0 < 128
  mark_start h = ⊎_elim (λ (e : p ≡ 0). absurd (omega arith)) (λ (b : (0 < p) × (get_or s (p - 1) 0 < 128)). b.1) k.start.behind

pub mark_there : (s : List ℕ) (p : ℕ) → p + 1 < length s → get_or s p 0 ≡ 128 → get_or s (p + 1) 0 ≤ 0 → (1 ≤ p → get_or s (p - 1) 0 < 128) → GroupAt s p mark
mark_there s p h a c f = record {
  start = record { here = omega arith; behind = by_order p 1 (λ z. inl (omega arith)) (λ some. inr (some, f some)) };
  is_group = mark_group;
  there =
      let i : p + 0 ≡ p = omega arith in
      two_there (drop p s) (get_or-drop p s 0 0 ∙ ap (λ (j : ℕ). get_or s j 0) i ∙ a) (get_or-drop p s 1 0 ∙ omega arith) (omega (arith, length-drop p s));
}

pub next_within : {s : List ℕ} {p m : ℕ} → NextMark s p m → m ≤ length s
next_within a = ⊎_elim (λ k. k.start.here) (λ e. omega (arith, e)) a.there

not_less : {s : List ℕ} {p m n : ℕ} → NextMark s p m → NextMark s p n → m < n → ⊥
not_less a b h = ⊎_elim (λ k. b.none_before _ a.from h k) (λ e. omega (arith, next_within b)) a.there

pub one_next : {s : List ℕ} {p m n : ℕ} → NextMark s p m → NextMark s p n → m ≡ n
one_next {m = m} {n = n} a b = by_order m n (λ h. absurd (not_less a b h)) (λ h. by_order n m (λ k. absurd (not_less b a k)) (λ k. omega arith))

pub next_here : {s : List ℕ} {p : ℕ} → GroupAt s p mark → NextMark s p p
next_here k = record { from = omega arith; none_before = λ q h l m. omega arith; there = inl k }

module _ {s : List ℕ} {p m : ℕ} (a : NextMark s p m) where
  pub next_is : m < length s → GroupAt s m mark
  next_is h = ⊎_elim (λ k. k) (λ e. absurd (omega (arith, e))) a.there

  pub next_none : length s ≤ m → (q : ℕ) → p ≤ q → GroupAt s q mark → ⊥
  next_none h q l k = a.none_before q l (omega (arith, mark_inside k)) k

pub told_yes : {P : Type 0} {t : Bool} → Tells P t → t ≡ true → P
told_yes f e = rw e at f

pub told_no : {P : Type 0} {t : Bool} → Tells P t → t ≡ false → P → ⊥
told_no f e = rw e at f

-- where the bytes from a place on begin with a mark's, the byte before them tells whether it is one
module _ (s : List ℕ) (p : ℕ) (two_more : 2 ≤ length (slice_range s p (length s))) (high : get_or (slice_range s p (length s)) 0 0 ≡ 128)
    (low : get_or (slice_range s p (length s)) 1 0 ≡ 0) where
  mark_matched : (1 ≤ p → get_or s (p - 1) 0 < 128) → GroupAt s p mark
  mark_matched =
      let rest : slice_range s p (length s) ≡ drop p s = rw (← length-drop p s) (take-length (drop p s)) in
      let i : p ≡ p + 0 = omega arith in
      mark_there s p (omega (arith, length-drop p s, ap (λ (l : List ℕ). length l) rest))
      (ap (λ (j : ℕ). get_or s j 0) i ∙ sym (get_or-drop p s 0 0) ∙ rw rest at high) (omega (arith, get_or-drop p s 1 0, rw rest at low))

  pub mark_in_front : p < 1 → Tells (GroupAt s p mark) (ltb p 1)
  mark_in_front z = rw (lt-ltb p 1 z) (mark_matched (λ some. absurd (omega arith)))

  pub mark_told : {r : Bool} → 1 ≤ p → r ≡ is_high_8_bit_set_lem (get_or s (p - 1) 0) → Tells (GroupAt s p mark) (not r)
  mark_told {r} some e =
      by_test (not r)
      (λ t. rw t (mark_matched (λ i. bit_clear e t)))
      (λ t. rw t (λ k. omega (arith, mark_start k some, bit_set {b = get_or s (p - 1) 0} e t)))

-- whether a mark stands at a place
mark_or_not : (s : List ℕ) (p : ℕ) → GroupAt s p mark ⊎ (GroupAt s p mark → ⊥)
mark_or_not s p =
    by_order (p + 1) (length s)
    (λ h. by_order (get_or s p 0) 128 (λ l. inr (λ k. omega (arith, mark_high k)))
    (λ l. by_order 128 (get_or s p 0) (λ m. inr (λ k. omega (arith, mark_high k)))
    (λ m. by_order 0 (get_or s (p + 1) 0) (λ n. inr (λ k. omega (arith, mark_low k)))
    (λ n. by_order p 1 (λ z. inl (mark_there s p h (omega arith) n (λ some. absurd (omega arith))))
    (λ z. by_order (get_or s (p - 1) 0) 128 (λ o. inl (mark_there s p h (omega arith) n (λ some. o))) (λ o. inr (λ k. omega (arith, mark_start k z))))))))
    (λ h. inr (λ k. omega (arith, mark_inside k)))

next_later : {s : List ℕ} {p m : ℕ} → (GroupAt s p mark → ⊥) → NextMark s (p + 1) m → NextMark s p m
next_later {p = p} none a = record {
  from = omega (arith, a.from);
  none_before = λ q h l k. by_order p q (λ i. a.none_before q (omega arith) l k) (λ i. let e : q ≡ p = omega arith in none (rw e at k));
  there = a.there;
}

-- there is one, or the end, n places ahead
some_ahead : (n : ℕ) (s : List ℕ) (p : ℕ) → p + n ≡ length s → (m : ℕ) × NextMark s p m
some_ahead zero s p e = (p, record { from = omega arith; none_before = λ q h l k. omega arith; there = inr (omega arith) })
some_ahead (suc n) s p e =
    ⊎_elim (λ k. (p, next_here k)) (λ (none : GroupAt s p mark → ⊥). let w = some_ahead n s (p + 1) (omega arith) in (w.0, next_later none w.1)) (mark_or_not s p)

pub some_next : (s : List ℕ) (p : ℕ) → p ≤ length s → (m : ℕ) × NextMark s p m
some_next s p h = some_ahead (length s - p) s p (omega arith)

-- what the search answers
module _ {s : List ℕ} {p : ℕ} where
  pub first_next : {m : ℕ} → FirstMark s p (Some m) → NextMark s p m
  first_next f = record { from = f.is.0; none_before = f.is.3; there = inl f.is.2 }

  pub first_none : FirstMark s p None → (q : ℕ) → p ≤ q → GroupAt s q mark → ⊥
  first_none f q h k = f.is q h (omega (arith, mark_inside k)) k

  pub first_or_end : p ≤ length s → {r : Option ℕ} {n : ℕ} → FirstMark s p r → n ≡ unwrap_or r (length s) → NextMark s p n
  first_or_end h {r = Some m} f e = rw e (first_next f)
  first_or_end h {r = None} f e = rw e (record { from = h; none_before = f.is; there = inr refl })
