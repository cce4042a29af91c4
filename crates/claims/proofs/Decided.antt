-- The byte at the place of a refusal decides it.
--
--   decides   where a byte stands at that place: cut off just before it, the bytes are refused by 1, decided by their end; cut off just behind it, as
--             they were
use Prim.Native.Nat.{ℕ, suc, ◌+◌, ◌-◌, ◌≤◌, ◌<◌}
use mathlib.Core.Path.{◌≡◌, ap, sym, ◌∙◌, subst}
use mathlib.Core.List.{List, [], append-nil}
use native.Mathlib.Omega.{arith}
use lib.ListN.{length, take, drop, length-drop, length-append}
use lib.Seq.{take-add, drop_at, length-take-le, get_or-take, take-append_seam}
use Rattle.words.specs.declared.Refusal.{Refusal}
use Rattle.words.specs.declared.Refusal.TheVariants.{End}
use Rattle.groups.specs.Group.{High, run}
use Rattle.groups.specs.Width.{Width}
use Rattle.groups.proofs.Exact.{group_length}
use Rattle.groups.proofs.FromWalk.{Sound}
use Rattle.groups.proofs.Run.{run_take_high}
use Rattle.groups.proofs.Stands.{run_behind}
use Rattle.claims.specs.Kinds.{Kind, width}
use Rattle.claims.specs.Table.{OverflowRow, Row}
use Rattle.claims.specs.Table.Row.{ends, overflows, not_shortest, past}
use Rattle.claims.specs.OfNumbers.{Decides}
use Rattle.claims.proofs.TableRows.{row_refused}
use Rattle.claims.proofs.Readers.{reading_of, read_row, refusal_says}

module _ {A : Type 0} (w : Width A) (sound : Sound w) (s : List ℕ) (at : ℕ) (here : at ≤ length s) where
  -- the first n bytes from the start on
  cut_from : (n : ℕ) → drop at (take (at + n) s) ≡ take n (drop at s)
  cut_from n = ap (drop at) (take-add at n s) ∙ drop_at (take at s) (take n (drop at s)) at (length-take-le at s here)

  cut_length : (n : ℕ) → n ≤ length (drop at s) → length (take (at + n) s) ≡ at + n
  cut_length n h = length-take-le (at + n) s (omega (arith, length-drop at s))

  -- fewer than the most, each of 128 or more
  ended : (n : ℕ) → n ≤ length (drop at s) → n < w.most → High (take n (drop at s)) → Row w (take (at + n) s) at (at + n) End
  ended n h m high =
      ends (omega (arith, cut_length n h)) (rw (cut_from n) (record { fewer = rw (length-take-le n (drop at s) h) m; high = high })) (sym (cut_length n h))

  overflows_still : OverflowRow w (drop at s) → OverflowRow w (take w.most (drop at s))
  overflows_still row =
      let l = drop at s in
      let n : length (take w.most l) ≡ w.most = length-take-le w.most l row.there in
      record {
        there = omega (arith, n);
        high = λ i h.
            let m : length (take (w.most - 1) (take w.most l)) ≡ w.most - 1 = length-take-le (w.most - 1) (take w.most l) (omega (arith, n)) in
            let k : i < w.most - 1 = omega (arith, m) in
            rw (get_or-take (w.most - 1) (take w.most l) i 0 k, get_or-take w.most l i 0 (omega arith), ← (get_or-take (w.most - 1) l i 0 k))
            (row.high i (rw (length-take-le (w.most - 1) l (omega (arith, row.there))) k));
        outside = rw (get_or-take w.most l (w.most - 1) 0 (omega (arith, sound.some))) row.outside;
      }

module _ {A : Type 0} (w : Width A) (sound : Sound w) (s : List ℕ) (at p : ℕ) (there : p < length s) where
  cut_before : (why : Refusal) → Row w s at p why → Row w (take p s) at p End
  cut_before _ (ends h row e) = absurd (omega (arith, e))
  cut_before _ (past h e) = absurd (omega (arith, e))
  cut_before _ (overflows h row e) = rw e (ended w sound s at h (w.most - 1) (omega (arith, row.there)) (omega (arith, sound.some)) row.high)
  cut_before _ (not_shortest h row e) =
      let g = row.group in
      let n : length g ≡ suc (run g) = group_length row.is_group in
      let r : run (drop at s) ≡ run g = ap run row.ends ∙ run_behind row.rest row.is_group in
      let m : length (drop at s) ≡ length g + length row.rest = ap length row.ends ∙ length-append g row.rest in
      rw e (ended w sound s at h (length g - 1) (omega arith) (omega (arith, row.fits)) (run_take_high (drop at s) (length g - 1) (omega arith)))

  cut_behind : (why : Refusal) → Row w s at p why → Row w (take (p + 1) s) at p why
  cut_behind _ (ends h row e) = absurd (omega (arith, e))
  cut_behind _ (past h e) = absurd (omega (arith, e))
  cut_behind _ (overflows h row e) =
      let n : length (take (p + 1) s) ≡ p + 1 = length-take-le (p + 1) s (omega arith) in
      let i : p + 1 ≡ at + w.most = omega (arith, e, sound.some) in
      let q : drop at (take (p + 1) s) ≡ take w.most (drop at s) = ap (λ (k : ℕ). drop at (take k s)) i ∙ cut_from w sound s at h w.most in
      overflows (omega (arith, n, e)) (subst (OverflowRow w) (sym q) (overflows_still w sound s at h row)) e
  cut_behind _ (not_shortest h row e) =
      let g = row.group in
      let n : length (take (p + 1) s) ≡ p + 1 = length-take-le (p + 1) s (omega arith) in
      let i : p + 1 ≡ at + length g = omega (arith, e, row.not_first) in
      let q : drop at (take (p + 1) s) ≡ g =
      ap (λ (k : ℕ). drop at (take k s)) i ∙ cut_from w sound s at h (length g) ∙ ap (take (length g)) row.ends ∙ take-append_seam g row.rest in
      not_shortest (omega (arith, n, e)) (record {
        group = g;
        rest = [];
        ends = q ∙ sym (append-nil g);
        is_group = row.is_group;
        fits = row.fits;
        allowed = row.allowed;
        not_first = row.not_first;
        too_many = row.too_many;
      }) e

pub decides : (k : Kind) → Decides k
decides k s at why p bytes there r =
    let sound = (reading_of k).sound in
    let row = read_row k s at bytes why p.0 ((refusal_says k s at why p).0 r) in (
      (refusal_says k (take p.0 s) at End p).1 (row_refused (width k) sound End (take p.0 s) at p.0 (cut_before (width k) sound s at p.0 there why row)),
      (refusal_says k (take (p.0 + 1) s) at why p).1 (row_refused (width k) sound why (take (p.0 + 1) s) at p.0 (cut_behind (width k) sound s at p.0 there why row)),
    )
