-- A clean block is numbers up to its end.
--
--   clean_left   from its beginning to its end, numbers of 64 bits stand in it one behind another
use Prim.Native.Nat.{ℕ, zero, suc, ◌+◌, ◌-◌, ◌≤◌, ◌<◌}
use mathlib.Core.Path.{◌≡◌, subst}
use mathlib.Core.List.{List, []}
use mathlib.Core.Bool.{true, false}
use native.Mathlib.Omega.{arith}
use borrow.Author.Tests.{le-leb, ne_eqb}
use lib.Dec.{leb, eqb}
use lib.ListN.{length, get_or, take, drop, length-drop}
use lib.Seq.{get_or-drop}
use Rattle.words.specs.Answer.{gives}
use Rattle.words.proofs.Cases.{by_order}
use Rattle.groups.specs.Group.{run, digits}
use Rattle.groups.specs.Width.{reading}
use Rattle.groups.proofs.Run.{in_run}
use Rattle.groups.proofs.Rows.{row_number}
use Rattle.uleb128.specs.Unsigned.{u64}
use Rattle.lists.specs.InnerSound.{Spare, Clean}
use Rattle.lists.specs.InnerLeft.{Left, done, one}

module _ {s : List ℕ} (c : Clean s) where
  none_spare : (j : ℕ) → 0 < j → j < length s → Spare s j → ⊥
  none_spare j h l = by_order j 9 (λ k. c.early j h k l) (λ k. (c.later j k l).0)

  module _ (at : ℕ) (here : at < length s) where
    high : (j : ℕ) → j < run (drop at s) → 128 ≤ get_or s (at + j) 0
    high j h = rw (get_or-drop at s j 0) at (in_run (drop at s) j h)

    -- the last byte is below 128, so that the run ends before it
    ends : at + run (drop at s) < length s
    ends =
        by_order (at + run (drop at s)) (length s) (λ h. h)
        (λ h.
        let e : at + (length s - at - 1) ≡ length s - 1 = omega arith in
        absurd (omega (arith, rw e at (high (length s - at - 1) (omega arith)), c.ended (omega arith))))

    -- a byte behind nine high ones is 1 at most
    none_over : 9 ≤ run (drop at s) → 1 < get_or s (at + 9) 0 → ⊥
    none_over h o =
        let e : at + 9 - 9 ≡ at = omega arith in
        (c.later (at + 9) (omega arith) (omega (arith, ends))).1 (record { high = rw e (λ i l. high i (omega arith)); over = o })

    within : run (drop at s) ≤ 9
    within = by_order 9 (run (drop at s)) (λ h. absurd (none_over (omega arith) (omega (arith, high 9 h)))) (λ h. h)

    allowed : run (drop at s) + 1 ≡ 10 → leb (get_or (drop at s) (run (drop at s)) 0) 1 ≡ true
    allowed e =
        let r : run (drop at s) ≡ 9 = omega arith in
        rw (r, get_or-drop at s 9 0)
        (le-leb (get_or s (at + 9) 0) 1 (by_order 1 (get_or s (at + 9) 0) (λ h. absurd (none_over (omega arith) h)) (λ h. h)))

    needed : 0 < run (drop at s) → eqb (get_or (drop at s) (run (drop at s)) 0) 0 ≡ false
    needed h =
        let e : at + run (drop at s) - 1 ≡ at + (run (drop at s) - 1) = omega arith in
        rw (get_or-drop at s (run (drop at s)) 0)
        (ne_eqb (get_or s (at + run (drop at s)) 0) 0
        (λ z. none_spare (at + run (drop at s)) (omega arith) ends (record { high = rw e (high (run (drop at s) - 1) (omega arith)); zero = z })))

    -- a number stands there, of the bytes through the first below 128
    number : reading u64 (drop at s) ≡ gives (digits (take (run (drop at s) + 1) (drop at s)), run (drop at s) + 1)
    number =
        row_number u64 (drop at s) (rw (length-drop at s) (omega (arith, ends))) (omega (arith, within)) allowed needed

  -- at most so many bytes are left
  clean_from : (most at : ℕ) → at ≤ length s → length s ≤ at + most → (vs : List ℕ) × Left s (length s) at vs
  clean_from zero at l m = let e : length s ≡ at = omega arith in ([], subst (λ (x : ℕ). Left s (length s) x []) e done)
  clean_from (suc most) at l m =
      by_order at (length s)
      (λ h.
      let rest = clean_from most (at + (run (drop at s) + 1)) (omega (arith, ends at h)) (omega arith) in
      (_, one (number at h) rest.1))
      (λ h. clean_from most at l (omega arith))

  pub clean_left : (vs : List ℕ) × Left s (length s) 0 vs
  clean_left = clean_from (length s) 0 (omega arith) (omega arith)
