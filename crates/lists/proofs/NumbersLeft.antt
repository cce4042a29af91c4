-- The numbers of a block, and what is left of it number by number.
--
--   left_numbers   where numbers stand one behind another up to a block's end, they are the numbers of what is left there, without a fault
--   numbers_left   and back
--   clean_count    a clean block has as many numbers as bytes below 128, and no fault
use Prim.Native.Nat.{ℕ, zero, suc, ◌+◌, ◌≤◌, ◌<◌}
use mathlib.Core.Path.{◌≡◌, refl, sym, ◌∙◌, subst}
use mathlib.Core.List.{List, [], ◌∷◌}
use native.Mathlib.Omega.{arith}
use lib.ListN.{length, take, drop, length-drop}
use lib.Seq.{get_or-drop, drop-drop, length-take-le}
use Rattle.words.specs.Answer.{Answer, gives, refused, moved}
use Rattle.words.proofs.Cases.{by_order}
use Rattle.words.proofs.Moved.{moved_gave}
use Rattle.words.proofs.OneMeaning.{apart}
use Rattle.groups.specs.Group.{Bytes, run}
use Rattle.groups.specs.Width.{reading}
use Rattle.groups.proofs.Run.{run_within}
use Rattle.groups.proofs.Stands.{reading_count, reading_alone}
use Rattle.uleb128.specs.Unsigned.{u64}
use Rattle.lists.specs.InnerLeft.{Left, done, one, lows}
use Rattle.lists.specs.InnerSound.{Clean}
use Rattle.lists.specs.Strict.{joined, numbers}
use Rattle.lists.specs.Inner.{many}
use Rattle.lists.proofs.quick.CleanLeft.{clean_left}
use Rattle.lists.proofs.quick.LowBytes.{number_closed, lows_whole}
use Rattle.lists.proofs.NumbersInFront.{numbers_group, numbers_tail, numbers_none}

-- a number and others, without a fault, taken apart
record Both (a : Answer (ℕ × ℕ)) (b : Answer (List ℕ)) (ns : List ℕ) : Type 0 where
  v : ℕ
  n : ℕ
  rest : List ℕ
  first : a ≡ gives (v, n)
  others : b ≡ gives rest
  is : ns ≡ v ∷ rest

both_given : (a : Answer (ℕ × ℕ)) (b : Answer (List ℕ)) {ns : List ℕ} → joined a b ≡ gives ns → Both a b ns
both_given (refused k) b e = apart (sym e)
both_given (gives p) (refused k) e = apart (sym e)
both_given (gives p) (gives ms) {ns} e = let q : ns ≡ p.0 ∷ ms = cc in record { v = p.0; n = p.1; rest = ms; first = refl; others = refl; is = q }

module _ (s : List ℕ) (bytes : Bytes s) where
  bytes_from : (at : ℕ) → Bytes (drop at s)
  bytes_from at i = rw (get_or-drop at s i 0) (bytes (at + i))

  -- the numbers from a place that is no end: the one that is read there, and those behind it
  numbers_from : (at : ℕ) → run (drop at s) < length (drop at s)
      → numbers at (drop at s) ≡ joined (moved at (reading u64 (drop at s))) (numbers (at + (run (drop at s) + 1)) (drop (at + (run (drop at s) + 1)) s))
  numbers_from at h =
      let l = drop at s in
      let n : length (take (run l + 1) l) ≡ run l + 1 = length-take-le (run l + 1) l (omega arith) in
      numbers_group at l h ∙ rw (n, drop-drop (run l + 1) at s, ← reading_alone u64 l (bytes_from at) h)

  pub left_numbers : {at : ℕ} {vs : List ℕ} → Left s (length s) at vs → numbers at (drop at s) ≡ gives vs
  left_numbers done = numbers_none (length s) (drop (length s) s) (omega (arith, length-drop (length s) s))
  left_numbers (one {at} {v} {n} {vs} e l) =
      let c : n ≡ run (drop at s) + 1 = reading_count u64 (drop at s) e in
      let q : numbers (at + (run (drop at s) + 1)) (drop (at + (run (drop at s) + 1)) s) ≡ gives vs = rw c at (left_numbers l) in
      numbers_from at (number_closed (drop at s) e) ∙ rw (e, q)

  none_left : (at : ℕ) {ns : List ℕ} → at ≤ length s → length s ≤ at → numbers at (drop at s) ≡ gives ns → Left s (length s) at ns
  none_left at {ns} h w q =
      let i : at ≡ length s = omega arith in
      let r : ◌≡◌ {A = Answer (List ℕ)} (gives []) (gives ns) = sym (numbers_none at (drop at s) (omega (arith, length-drop at s))) ∙ q in
      let z : [] ≡ ns = cc in
      subst (Left s (length s) at) z (subst (λ (p : ℕ). Left s p at []) i done)

  ends_there : (at : ℕ) {ns : List ℕ} → at < length s → numbers at (drop at s) ≡ gives ns → run (drop at s) < length (drop at s)
  ends_there at h q =
      let l = drop at s in
      by_order (run l) (length l) (λ o. o)
      (λ o. apart (sym q ∙ numbers_tail at l (omega (arith, run_within l)) (omega (arith, length-drop at s))))

  numbers_left_by : (k at : ℕ) {ns : List ℕ} → length s ≤ at + k → at ≤ length s → numbers at (drop at s) ≡ gives ns → Left s (length s) at ns
  numbers_left_by zero at w h q = none_left at h (omega arith) q
  numbers_left_by (suc k) at {ns} w h q =
      by_order at (length s)
      (λ o.
      let c = ends_there at o q in
      let p = both_given (moved at (reading u64 (drop at s))) (numbers (at + (run (drop at s) + 1)) (drop (at + (run (drop at s) + 1)) s)) (sym (numbers_from at c) ∙ q) in
      let r : reading u64 (drop at s) ≡ gives (p.v, p.n) = moved_gave at (reading u64 (drop at s)) p.first in
      let i : p.n ≡ run (drop at s) + 1 = reading_count u64 (drop at s) r in
      subst (Left s (length s) at) (sym p.is)
      (one r (numbers_left_by k (at + p.n) (omega arith) (omega (arith, length-drop at s)) (rw i p.others))))
      (λ o. none_left at h o q)

  pub numbers_left : {ns : List ℕ} → numbers 0 s ≡ gives ns → Left s (length s) 0 ns
  numbers_left q = numbers_left_by (length s) 0 (omega arith) (omega arith) q

  pub clean_count : Clean s → {n : ℕ} → n ≡ lows s → gives n ≡ many (numbers 0 s)
  clean_count c e =
      let l = clean_left c in
      rw (left_numbers l.1, e, lows_whole l.1)
