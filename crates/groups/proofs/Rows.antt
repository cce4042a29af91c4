-- The rows of the table: which test of `reading` holds when, over any width, and what is then answered.
--
--   closed_not_out              row 1's test fails where a byte is below 128,
--   long_not_out                and where the run is at least the most bytes
--   large_when                  row 2's test holds where all bytes before the greatest length are 128 or more, and the one there is not allowed
--   short_not_large             it fails where the run is shorter
--   many_when                   row 3's test holds where the last byte isn't the first, and is one too many
--   first_not_many              it fails where the last byte is the first
--   not_large                   row 2's test fails where the last byte comes within the greatest length, and is allowed if at that length
--   when_large, when_many       what the tests of row 2 and of row 3 say of the bytes where they hold
--   row_end                     fewer bytes than the most, each of 128 or more: refusal 1, decided by their end
--   row_large                   a byte at the greatest length that is not allowed, all earlier ones 128 or more: refusal 2, decided by that byte
--   row_many                    a number that ends, isn't too large, and has a last byte one too many: refusal 3, decided by that byte
--   row_number                  one that has none too many: the value, and the count of the bytes through the first below 128
--   read_past                   reading from a place past the end is refusal 4, decided by that place
--   read_from                   reading from any other is reading the bytes from there on, moved by that place
--   decided_in_run              where a reading is refused, all bytes before the one that decided it are 128 or more,
--   read_decided                and so it is where reading from a place is
--   reading_cases, read_cases   a thing from either case of a reading: a number, or one of the refusals
--   due_kept, due_passed        `Due b a` where b is a, and where b is b' and `Due b' a`
use Prim.Native.Nat.{ℕ, ◌+◌, ◌-◌, ◌≤◌, ◌<◌}
use mathlib.Core.Path.{◌≡◌, sym, ◌∙◌}
use mathlib.Core.List.{List}
use mathlib.Core.Bool.{true, false, not}
use native.Mathlib.Omega.{arith}
use borrow.Author.Tests.{lt-ltb, le-ltb, le-leb, lt-leb, eq-eqb, ne_eqb, leb-true, ltb-true, eqb-true, not-true}
use lib.Dec.{leb, ltb, eqb}
use lib.ListN.{length, get_or, take, drop}
use Rattle.words.specs.Answer.{Answer, gives, refused, by_at, because_at, moved}
use Rattle.words.specs.declared.Refusal.{Refusal}
use Rattle.words.specs.declared.Refusal.TheVariants.{End, Overflow, NotShortest, Place}
use Rattle.words.proofs.Cases.{by_order, by_test, both_false, both_true}
use Rattle.words.proofs.OneMeaning.{apart, decided_same}
use Rattle.groups.specs.Group.{run}
use Rattle.groups.specs.Width.{Width, runs_out, is_too_large, is_too_many, reading, read, Due}
use Rattle.groups.proofs.Run.{run_within}

module _ {A : Type 0} (w : Width A) where
  out_when : (l : List ℕ) → run l ≡ length l → run l < w.most → runs_out w l ≡ true
  unfolding runs_out
  out_when l e h = rw (eq-eqb (run l) (length l) e, lt-ltb (run l) w.most h)

  pub closed_not_out : (l : List ℕ) → run l < length l → runs_out w l ≡ false
  unfolding runs_out
  closed_not_out l h =
      let ne : run l ≡ length l → ⊥ = λ e. omega arith in
      rw (ne_eqb (run l) (length l) ne)

  pub long_not_out : (l : List ℕ) → w.most ≤ run l → runs_out w l ≡ false
  unfolding runs_out
  long_not_out l h = rw (le-ltb (run l) w.most h) (both_false (eqb (run l) (length l)))

  pub large_when : (l : List ℕ) → w.most ≤ run l + 1 → w.allowed (get_or l (w.most - 1) 0) ≡ false → is_too_large w l ≡ true
  unfolding is_too_large
  large_when l h e = rw (le-leb w.most (run l + 1) h, e)

  pub short_not_large : (l : List ℕ) → run l + 1 < w.most → is_too_large w l ≡ false
  unfolding is_too_large
  short_not_large l h = rw (lt-leb w.most (run l + 1) h)

  allowed_not_large : (l : List ℕ) → w.allowed (get_or l (w.most - 1) 0) ≡ true → is_too_large w l ≡ false
  unfolding is_too_large
  allowed_not_large l e = rw e (both_false (leb w.most (run l + 1)))

  pub many_when : (l : List ℕ) → 0 < run l → w.extra (get_or l (run l - 1) 0) (get_or l (run l) 0) ≡ true → is_too_many w l ≡ true
  unfolding is_too_many
  many_when l h e = rw (lt-ltb 0 (run l) h, e)

  pub first_not_many : (l : List ℕ) → run l ≡ 0 → is_too_many w l ≡ false
  unfolding is_too_many
  first_not_many l e = rw (le-ltb 0 (run l) (omega arith))

  needed_not_many : (l : List ℕ) → w.extra (get_or l (run l - 1) 0) (get_or l (run l) 0) ≡ false → is_too_many w l ≡ false
  unfolding is_too_many
  needed_not_many l e = rw e (both_false (ltb 0 (run l)))

  not_many : (l : List ℕ) → (0 < run l → w.extra (get_or l (run l - 1) 0) (get_or l (run l) 0) ≡ false) → is_too_many w l ≡ false
  not_many l f = by_order 0 (run l) (λ h. needed_not_many l (f h)) (λ h. first_not_many l (omega arith))

  pub not_large : (l : List ℕ) → run l + 1 ≤ w.most → (run l + 1 ≡ w.most → w.allowed (get_or l (run l) 0) ≡ true) → is_too_large w l ≡ false
  not_large l h f =
      by_order (run l + 1) w.most (λ s. short_not_large l s)
      (λ s. let e : run l + 1 ≡ w.most = omega arith in let i : w.most - 1 ≡ run l = omega arith in allowed_not_large l (rw i (f e)))

  -- and from the tests
  pub when_large : (l : List ℕ) → is_too_large w l ≡ true → (w.most ≤ run l + 1) × (w.allowed (get_or l (w.most - 1) 0) ≡ false)
  unfolding is_too_large
  when_large l e =
      let p = both_true (leb w.most (run l + 1)) (not (w.allowed (get_or l (w.most - 1) 0))) e in
      (leb-true w.most (run l + 1) p.0, not-true (w.allowed (get_or l (w.most - 1) 0)) p.1)

  pub when_many : (l : List ℕ) → is_too_many w l ≡ true → (0 < run l) × (w.extra (get_or l (run l - 1) 0) (get_or l (run l) 0) ≡ true)
  unfolding is_too_many
  when_many l e =
      let p = both_true (ltb 0 (run l)) (w.extra (get_or l (run l - 1) 0) (get_or l (run l) 0)) e in (ltb-true 0 (run l) p.0, p.1)

  -- row 1: fewer bytes than the most, and each is 128 or more
  pub row_end : (l : List ℕ) → run l ≡ length l → run l < w.most → reading w l ≡ refused (by_at 1 (length l))
  unfolding reading
  row_end l e h = rw (out_when l e h)

  -- row 2: the byte at the greatest length is there, all earlier are 128 or more, and it is not allowed
  pub row_large : (l : List ℕ) → w.most ≤ length l → w.most ≤ run l + 1 → w.allowed (get_or l (w.most - 1) 0) ≡ false
      → reading w l ≡ refused (by_at 2 (w.most - 1))
  unfolding reading
  row_large l there h e =
      let out : runs_out w l ≡ false = by_order (run l) (length l) (λ c. closed_not_out l c) (λ c. long_not_out l (omega (arith, run_within l))) in
      rw (out, large_when l h e)

  module _ (l : List ℕ) (ends : run l < length l) (fits : run l + 1 ≤ w.most)
      (last : run l + 1 ≡ w.most → w.allowed (get_or l (run l) 0) ≡ true) where
    -- row 3: the number ends, not too large, and its last byte isn't the first and is one too many
    pub row_many : 0 < run l → w.extra (get_or l (run l - 1) 0) (get_or l (run l) 0) ≡ true → reading w l ≡ refused (by_at 3 (run l))
    unfolding reading
    row_many h e = rw (closed_not_out l ends, not_large l fits last, many_when l h e)

    -- no row: the number
    pub row_number : (0 < run l → w.extra (get_or l (run l - 1) 0) (get_or l (run l) 0) ≡ false)
        → reading w l ≡ gives (w.value (take (run l + 1) l), run l + 1)
    unfolding reading
    row_number f = rw (closed_not_out l ends, not_large l fits last, not_many l f)

  pub read_past : (s : List ℕ) (at : ℕ) → length s < at → read w s at ≡ refused (by_at 4 at)
  unfolding read
  read_past s at h = rw (lt-ltb (length s) at h)

  pub read_from : (s : List ℕ) (at : ℕ) → at ≤ length s → {a : Answer (A × ℕ)} → reading w (drop at s) ≡ a → read w s at ≡ moved at a
  unfolding read
  read_from s at h e = rw (le-ltb (length s) at h, e)

-- what a reading can say: a number, or a refusal that has a name
module _ {A X : Type 0} (w : Width A) where
  pub reading_cases : (g : List ℕ) → ((v : A) (n : ℕ) → reading w g ≡ gives (v, n) → X) → ((why : Refusal) (p : ℕ) → reading w g ≡ refused (because_at why p) → X) → X
  unfolding reading
  reading_cases g value fault =
      by_test (runs_out w g) (λ o. fault End (length g) (rw o))
      (λ o. by_test (is_too_large w g) (λ l. fault Overflow (w.most - 1) (rw (o, l)))
      (λ l. by_test (is_too_many w g) (λ m. fault NotShortest (run g) (rw (o, l, m))) (λ m. value (w.value (take (run g + 1) g)) (run g + 1) (rw (o, l, m)))))

  pub read_cases : (s : List ℕ) (at : ℕ) → ((v : A) (n : ℕ) → read w s at ≡ gives (v, n) → X) → ((why : Refusal) (p : ℕ) → read w s at ≡ refused (because_at why p) → X) → X
  read_cases s at value fault =
      by_order (length s) at (λ h. fault Place at (read_past w s at h))
      (λ h. reading_cases (drop at s) (λ v n e. value v n (read_from w s at h e)) (λ why p e. fault why (at + p) (read_from w s at h e)))

-- where a reading is refused, the run goes through to the byte that decided it
module _ {A : Type 0} (w : Width A) where
  pub decided_in_run : (l : List ℕ) (why : Refusal) (j : ℕ) → reading w l ≡ refused (because_at why j) → j ≤ run l
  unfolding reading runs_out
  decided_in_run l why j e =
      by_test (runs_out w l)
      (λ o.
      let q : reading w l ≡ refused (because_at End (length l)) = rw o in
      omega (arith, eqb-true (run l) (length l) (both_true (eqb (run l) (length l)) (ltb (run l) w.most) o).0, (decided_same End why (sym q ∙ e)).1))
      (λ o. by_test (is_too_large w l)
      (λ t.
      let q : reading w l ≡ refused (because_at Overflow (w.most - 1)) = rw (o, t) in
      omega (arith, (when_large w l t).0, (decided_same Overflow why (sym q ∙ e)).1))
      (λ t. by_test (is_too_many w l)
      (λ m.
      let q : reading w l ≡ refused (because_at NotShortest (run l)) = rw (o, t, m) in
      omega (arith, (decided_same NotShortest why (sym q ∙ e)).1))
      (λ m.
      let q : reading w l ≡ gives (w.value (take (run l + 1) l), run l + 1) = rw (o, t, m) in
      apart (sym q ∙ e))))

  pub read_decided : (s : List ℕ) (at : ℕ) → at ≤ length s → (why : Refusal) (q : ℕ) → read w s at ≡ refused (because_at why q)
      → (at ≤ q) × (q ≤ at + run (drop at s))
  read_decided s at h why q e =
      reading_cases w (drop at s) (λ v n g. apart (sym (read_from w s at h g) ∙ e))
      (λ k j g.
      let i : at + j ≡ q = (decided_same k why (sym (read_from w s at h g) ∙ e)).1 in
      (omega arith, omega (arith, decided_in_run (drop at s) k j g)))

-- an answer keeps a promise where what is promised is the same, and so does one that keeps another promise of the same
module _ {A : Type 0} {b : Answer A} where
  pub due_kept : {a : Answer A} → b ≡ a → Due b a
  due_kept e = record { is = sym e }

  pub due_passed : {b' a : Answer A} → b ≡ b' → Due b' a → Due b a
  due_passed e p = record { is = p.is ∙ sym e }
