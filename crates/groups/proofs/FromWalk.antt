-- What a walk's answer tells of the bytes from a place on, and what a reading from there answers, at any width. A high byte is 128 or more.
--
--   Sound w                             the most bytes are above 0, and only bytes below 128 are allowed at that length
--   Opening s at high                   all the bytes from the place at on are high ones; their count is high, below ten
--   Closing s at sum weight high last   a group stands at the place at: high ones, their count high, below ten, that sum to sum, and then last,
--                                       below 128, that weighs weight
--   Overrun s at                        from the place at on stand ten high bytes or more
--   WalkTells s at r                    what a walk's answer r says: that the place is past the end, or one of the three
--   walk_tells                          what a walk answers is so
--   open_inside, overrun_inside         where the bytes that were walked stand: all of them, or the first ten,
--   closed_inside                       or all through the last
--   overrun_large                       as many high bytes as the most: refusal 2, decided by the last of them
--   open_end                            only high bytes, fewer than the most: refusal 1, decided by the end of the bytes
--   closed_large                        such a group's last byte is at the greatest length and not allowed: refusal 2, decided by that byte
--   closed_many                         it isn't too large, and its last byte isn't the first and is one too many: refusal 3, decided by that byte
--   closed_number                       it isn't too large and has none too many: the value and the count
--   closed_several                      such a group has high bytes, where no byte below 128 stands at the place
--   closed_digits                       its digits are sum + weight * last
--   closed_below                        sum is below weight
--   closed_limit                        its digits are below 128 to the k, times top + 1, where high is at most k, and at k last is at most top
use Prim.Native.Nat.{ℕ, ◌+◌, ◌-◌, ◌*◌, ◌^◌, ◌≤◌, ◌<◌}
use mathlib.Core.Path.{◌≡◌, refl, sym, ◌∙◌, subst}
use mathlib.Core.List.{List}
use mathlib.Core.Bool.{true, false}
use native.Mathlib.Nat.{add-zero, mod-eq_of_lt}
use native.Mathlib.Omega.{arith}
use borrow.Author.Tests.{lt-ltb, le-ltb, le-leb, lt-leb, eq-eqb, ne_eqb}
use lib.ListN.{length, get_or, take, drop, length-drop}
use lib.Seq.{get_or-drop}
use Rattle.words.specs.Answer.{gives, refused, by_at}
use Rattle.words.proofs.Cases.{by_order}
use Rattle.words.proofs.Moved.{same_place}
use Rattle.groups.specs.Group.{run, digits}
use Rattle.groups.specs.Width.{Width, read}
use Rattle.groups.specs.Promise.{walking, walked, Walks}
use Rattle.groups.specs.declared.Walked.{Walked}
use Rattle.groups.specs.declared.Walked.TheVariants.{Past, Open, Long, Closed}
use Rattle.groups.proofs.Run.{run_within, in_run, at_run, digits_take, digits_take_below, below_limit}
use Rattle.groups.proofs.Rows.{row_end, row_large, row_many, row_number, read_from}

pub record Sound {A : Type 0} (w : Width A) : Type 0 where
  pub some : 0 < w.most
  pub low : (b : ℕ) → 128 ≤ b → w.allowed b ≡ false

-- all the bytes from the place on, fewer than ten, are high
pub record Opening (s : List ℕ) (at high : ℕ) : Type 0 where
  pub here : at ≤ length s
  pub all : run (drop at s) ≡ length (drop at s)
  pub many : run (drop at s) ≡ high
  pub few : high < 10

pub record Closing (s : List ℕ) (at sum weight high last : ℕ) : Type 0 where
  pub here : at ≤ length s
  pub many : run (drop at s) ≡ high
  pub ends : high < length (drop at s)
  pub few : high < 10
  pub sums : sum ≡ digits (take high (drop at s))
  pub weighs : weight ≡ 128 ^ high
  pub is : last ≡ get_or (drop at s) high 0
  pub low : last < 128

pub record Overrun (s : List ℕ) (at : ℕ) : Type 0 where
  pub here : at ≤ length s
  pub many : 10 ≤ run (drop at s)

abbrev pub WalkTells : List ℕ → ℕ → Walked → Type 0
WalkTells s at Past = length s < at
WalkTells s at (Open high) = Opening s at high.0
WalkTells s at Long = Overrun s at
WalkTells s at (Closed sum weight high last) = Closing s at sum weight high.0 last

module _ (s : List ℕ) (at : ℕ) where
  told_from : at ≤ length s → WalkTells s at (walked s at)
  unfolding walked walking
  told_from h =
      let l = drop at s in
      by_order (run l) 10
      (λ few.
      by_order (run l) (length l)
      (λ ends.
      let ne : run l ≡ length l → ⊥ = λ e. omega arith in
      rw (le-ltb (length s) at h, lt-leb 10 (run l) few, ne_eqb (run l) (length l) ne)
      (record { here = h; many = refl; ends = ends; few = few; sums = refl; weighs = refl; is = refl; low = at_run l ends }))
      (λ all.
      let e : run l ≡ length l = omega (arith, run_within l) in
      rw (le-ltb (length s) at h, lt-leb 10 (run l) few, eq-eqb (run l) (length l) e) (record { here = h; all = e; many = refl; few = few })))
      (λ many. rw (le-ltb (length s) at h, le-leb 10 (run l) many) (record { here = h; many = many }))

  told_all : WalkTells s at (walked s at)
  unfolding walked
  told_all = by_order (length s) at (λ p. rw (lt-ltb (length s) at p) p) told_from

  pub walk_tells : {r r' : Walked} → Walks s at r → r ≡ r' → WalkTells s at r'
  walk_tells p e = subst (WalkTells s at) (sym p.is ∙ e) told_all

-- they stand in s
module _ {s : List ℕ} {at : ℕ} where
  pub open_inside : {high : ℕ} → Opening s at high → at + high ≡ length s
  open_inside o = omega (arith, o.here, o.all, o.many, length-drop at s)

  pub overrun_inside : Overrun s at → at + 10 ≤ length s
  overrun_inside o = omega (arith, o.here, o.many, run_within (drop at s), length-drop at s)

  pub closed_inside : {sum weight high last : ℕ} → Closing s at sum weight high last → at + high < length s
  closed_inside c = omega (arith, c.here, c.ends, length-drop at s)

module _ {A : Type 0} (w : Width A) (sound : Sound w) (s : List ℕ) (at : ℕ) where
  -- as many high bytes as the width has bytes: the one at the greatest length is not allowed
  pub overrun_large : at ≤ length s → w.most ≤ run (drop at s) → read w s at ≡ refused (by_at 2 (at + (w.most - 1)))
  overrun_large h m =
      read_from w s at h (row_large w (drop at s) (omega (arith, run_within (drop at s))) (omega arith)
      (sound.low (get_or (drop at s) (w.most - 1) 0) (in_run (drop at s) (w.most - 1) (omega (arith, sound.some)))))

  pub open_end : {high : ℕ} → Opening s at high → high < w.most → read w s at ≡ refused (by_at 1 (length s))
  open_end o m =
      read_from w s at o.here (row_end w (drop at s) o.all (omega (arith, o.many)))
      ∙ same_place (omega (arith, o.here, length-drop at s))

  module _ {sum weight high last : ℕ} (c : Closing s at sum weight high last) where
    pub closed_large : high + 1 ≡ w.most → w.allowed last ≡ false → read w s at ≡ refused (by_at 2 (at + high))
    closed_large e f =
        let i : w.most - 1 ≡ high = omega arith in
        read_from w s at c.here (row_large w (drop at s) (omega (arith, c.ends)) (omega (arith, c.many)) (rw (i, ← c.is) f))
        ∙ rw i

    module _ (fits : high + 1 ≤ w.most) (allowed : high + 1 ≡ w.most → w.allowed last ≡ true) where
      closing_allowed : run (drop at s) + 1 ≡ w.most → w.allowed (get_or (drop at s) (run (drop at s)) 0) ≡ true
      closing_allowed e = rw (c.many, ← c.is) (allowed (rw c.many at e))

      pub closed_many : 0 < high → w.extra (get_or (drop at s) (high - 1) 0) last ≡ true → read w s at ≡ refused (by_at 3 (at + high))
      closed_many h e =
          read_from w s at c.here
          (row_many w (drop at s) (omega (arith, c.many, c.ends)) (omega (arith, c.many)) closing_allowed (omega (arith, c.many))
          (rw (c.many, ← c.is) e))
          ∙ rw c.many

      pub closed_number : (0 < high → w.extra (get_or (drop at s) (high - 1) 0) last ≡ false)
          → read w s at ≡ gives (w.value (take (high + 1) (drop at s)), high + 1)
      closed_number f =
          read_from w s at c.here
          (row_number w (drop at s) (omega (arith, c.many, c.ends)) (omega (arith, c.many)) closing_allowed
          (λ h. rw (c.many, ← c.is) (f (rw c.many at h))))
          ∙ rw c.many

module _ {s : List ℕ} {at sum weight high last : ℕ} (c : Closing s at sum weight high last) where
  -- what the whole group sums to
  pub closed_digits : digits (take (high + 1) (drop at s)) ≡ sum + weight * last
  closed_digits =
      digits_take (drop at s) high c.ends
      ∙ rw (← c.is, ← c.sums, ← c.weighs, mod-eq_of_lt c.low)

  pub closed_several : (at < length s → 128 ≤ get_or s at 0) → 0 < high
  closed_several h =
      by_order 0 high (λ l. l)
      (λ l.
      let z : high ≡ 0 = omega arith in
      let b : last ≡ get_or s at 0 = c.is ∙ rw (z, get_or-drop at s 0 0, add-zero at) in
      absurd (omega (arith, h (omega (arith, closed_inside c)), c.low)))

  pub closed_below : sum < weight
  closed_below = omega (arith, digits_take_below (drop at s) high (omega (arith, c.ends)), c.sums, c.weighs)

  pub closed_limit : (k top : ℕ) → high ≤ k → (high ≡ k → last ≤ top) → sum + weight * last < 128 ^ k * (top + 1)
  closed_limit = below_limit closed_below c.weighs c.low
