-- The recursive reader, a byte at a time: a byte of 128 or more stands in front of a reading of one byte less at the next place. Below, left is
-- the most bytes of a width that allows 0 and 1 at that length.
--
--   reading_step               a byte of 128 or more in front of others is read as that byte ahead of their reading, of one byte less, moved by one
--   rest_end                   at the end: refusal 1, decided there
--   rest_large                 a byte below 128 and above 1, where left is 1: refusal 2, decided by that byte
--   rest_last                  any other byte below 128: the number that it is, and one byte
--   rest_overrun               a byte of 128 or more, where left is 1: refusal 2, decided by that byte
--   rest_ahead                 where left is more: that byte ahead of the reading at the next place, of one byte less
--   reads_joins                what is read at a width of fewer than ten bytes leaves room for seven bits more, or is a refusal
--   joins_room                 a number that leaves such room is below 2 to the 57, of fewer than ten bytes
--   ahead_zero, ahead_number   a byte ahead of 0: refusal 3; ahead of any other number: the number that both make, of one byte more
--   ahead_case                 a byte ahead of what an answer means is that byte ahead of what the case that it is means
use Prim.Native.Nat.{ℕ, suc, ◌+◌, ◌-◌, ◌*◌, ◌%◌, ◌^◌, ◌≤◌, ◌<◌}
use mathlib.Core.Path.{◌≡◌, refl, ap, sym, ◌∙◌, subst}
use mathlib.Core.List.{List, [], ◌∷◌}
use mathlib.Core.Bool.{Bool, true, false}
use native.Mathlib.Nat.{add-zero, mul-pos, mod-eq_of_lt}
use native.Mathlib.Numerals.{add-one}
use native.Mathlib.Omega.{arith}
use borrow.Author.Tests.{lt-ltb, le-ltb, le-leb, lt-leb, eq-eqb, ne_eqb}
use lib.Dec.{ltb, eqb, leb-suc-suc, eqb-suc-suc}
use lib.ListN.{length, get_or, take, drop, drop_of_length-le, get_or-eq_default}
use lib.Seq.{drop-cons}
use Rattle.std.specs.Prelude.{Ok}
use Rattle.words.specs.Answer.{pick, Answer, gives, refused, by_at, Why, moved_why, moved, Reading, means_read}
use Rattle.words.specs.declared.Count.{Count}
use Rattle.words.proofs.Cases.{by_order, by_test, both_false}
use Rattle.words.proofs.Moved.{moved_twice, same_place}
use Rattle.groups.specs.Group.{Bytes, run, digits}
use Rattle.groups.specs.Width.{runs_out, is_too_large, is_too_many, reading, read, Reads}
use Rattle.groups.proofs.Run.{run_low, run_high, at_run, digits_take, pow_up}
use Rattle.groups.proofs.Rows.{read_from, row_end, row_large, row_number, due_kept}
use Rattle.groups.proofs.FromWalk.{overrun_large}
use Rattle.groups.proofs.Stands.{read_stands, count_within}
use Rattle.uleb128.specs.Unsigned.{unsigned}
use Rattle.uleb128.proofs.Widths.{sound}
use Rattle.uleb128.proofs.ReadsForms.{read_begins}
use Rattle.uleb128_rec.specs.Inner.{Joins, byte_ahead}

-- a number that is one byte 0
zero_alone : (l : List ℕ) → run l ≡ 0 → get_or l (run l) 0 ≡ 0 → digits (take (run l + 1) l) ≡ 0
unfolding run digits
zero_alone [] e z = refl
zero_alone (c ∷ l) e z = let z' : c ≡ 0 = rw e at z in rw (e, z')

-- a last byte above 0
above_zero : (l : List ℕ) → 0 < get_or l (run l) 0 → 0 < digits (take (run l + 1) l)
above_zero l h =
    by_order (run l) (length l)
    (λ in-l.
    let m : get_or l (run l) 0 % 128 ≡ get_or l (run l) 0 = mod-eq_of_lt (at_run l in-l) in
    let p : 0 < 128 ^ run l * (get_or l (run l) 0 % 128) = mul-pos (pow_up 0 (run l) (omega arith)) (omega arith) in
    omega (arith, digits_take l (run l) in-l))
    (λ out. let z : get_or l (run l) 0 ≡ 0 = get_or-eq_default l 0 out in absurd (omega arith))

ahead_pick : (b p n : ℕ) (k : Why) (t : Bool) (a : Answer (ℕ × ℕ)) → byte_ahead b p (moved n (pick t (refused k) a)) ≡ pick t (refused (moved_why n k)) (byte_ahead b p (moved n a))
ahead_pick b p n k true a = refl
ahead_pick b p n k false a = refl

-- a byte ahead of what is one byte behind it, and both moved
ahead_moved : (b n : ℕ) (a : Answer (ℕ × ℕ)) → moved n (byte_ahead b 1 (moved 1 a)) ≡ byte_ahead b (n + 1) (moved (n + 1) a)
ahead_moved b n (gives x) = by_test (eqb x.0 0) (λ t. rw t) (λ t. rw t)
ahead_moved b n (refused k) = moved_twice {A = ℕ × ℕ} n 1 (refused k)

module _ (k top : ℕ) (some : 0 < k) (b : ℕ) (l : List ℕ) (hi : 128 ≤ b) where
  out_step : runs_out (unsigned (suc k) top) (b ∷ l) ≡ runs_out (unsigned k top) l
  unfolding runs_out
  out_step = rw (run_high b l hi, eqb-suc-suc (run l) (length l), leb-suc-suc (suc (run l)) k)

  large_step : is_too_large (unsigned (suc k) top) (b ∷ l) ≡ is_too_large (unsigned k top) l
  unfolding is_too_large
  large_step =
      let i : suc k - 1 ≡ suc (k - 1) = omega arith in
      let j : suc (run l) + 1 ≡ suc (run l + 1) = omega arith in
      rw (run_high b l hi, i, j, leb-suc-suc k (run l + 1))

  many_step : is_too_many (unsigned (suc k) top) (b ∷ l) ≡ eqb (get_or l (run l) 0) 0
  unfolding is_too_many
  many_step = rw (run_high b l hi, lt-ltb 0 (suc (run l)) (omega arith))

  -- what is read behind the byte is 0 exactly where its last byte is 0 and it has no other
  last_step : (x : Answer (ℕ × ℕ)) → pick (eqb (get_or l (run l) 0) 0) (refused (by_at 3 (suc (run l)))) x
      ≡ pick (is_too_many (unsigned k top) l) (refused (by_at 3 (suc (run l)))) (pick (eqb (digits (take (run l + 1) l)) 0) (refused (by_at 3 1)) x)
  unfolding is_too_many
  last_step x =
      let b = get_or l (run l) 0 in
      by_order b 1
      (λ z.
      by_order 0 (run l)
      (λ p. rw (eq-eqb b 0 (omega arith), lt-ltb 0 (run l) p))
      (λ p.
      let v : digits (take (run l + 1) l) ≡ 0 = zero_alone l (omega arith) (omega arith) in
      let i : suc (run l) ≡ 1 = omega arith in
      rw (eq-eqb b 0 (omega arith), le-ltb 0 (run l) p, v, i)))
      (λ z.
      let v : eqb (digits (take (run l + 1) l)) 0 ≡ false =
      ne_eqb (digits (take (run l + 1) l)) 0 (λ e. omega (arith, above_zero l z)) in
      rw (ne_eqb b 0 (λ e. omega arith), both_false (ltb 0 (run l)), v))

  pub reading_step : reading (unsigned (suc k) top) (b ∷ l) ≡ byte_ahead b 1 (moved 1 (reading (unsigned k top) l))
  unfolding reading digits
  reading_step =
      let j : suc (run l) + 1 ≡ suc (run l + 1) = omega arith in
      let first : suc (length l) ≡ 1 + length l = omega arith in
      let second : suc k - 1 ≡ 1 + (k - 1) = omega arith in
      let third : suc (run l) ≡ 1 + run l = omega arith in
      rw (out_step, large_step, many_step, run_high b l hi, j, last_step, ← (add-one (run l + 1)), first, second, third)
      (sym (ahead_pick b 1 1 (by_at 1 (length l)) (runs_out (unsigned k top) l) _ ∙ ap (pick (runs_out (unsigned k top) l) (refused (by_at 1 (1 + length l))))
      (ahead_pick b 1 1 (by_at 2 (k - 1)) (is_too_large (unsigned k top) l) _ ∙ ap (pick (is_too_large (unsigned k top) l) (refused (by_at 2 (1 + (k - 1)))))
      (ahead_pick b 1 1 (by_at 3 (run l)) (is_too_many (unsigned k top) l) _))))

module _ (left : ℕ) (some : 0 < left) (s : List ℕ) (at : ℕ) where
  pub rest_end : at ≤ length s → length s ≤ at → Reads (unsigned left 1) s at (refused (by_at 1 (length s)))
  unfolding run
  rest_end h e =
      let n : drop at s ≡ [] = drop_of_length-le s e in
      due_kept (read_from (unsigned left 1) s at h (ap (reading (unsigned left 1)) n ∙ row_end (unsigned left 1) [] refl some) ∙ same_place (omega arith))

  module _ (there : at < length s) where
    bytes_from : drop at s ≡ get_or s at 0 ∷ drop (suc at) s
    bytes_from = drop-cons s at 0 there

    reading_from : {a : Answer (ℕ × ℕ)} → reading (unsigned left 1) (get_or s at 0 ∷ drop (suc at) s) ≡ a → read (unsigned left 1) s at ≡ moved at a
    reading_from e = read_from (unsigned left 1) s at (omega arith) (ap (reading (unsigned left 1)) bytes_from ∙ e)

    module _ (low : get_or s at 0 < 128) where
      pub rest_large : left < 2 → 1 < get_or s at 0 → Reads (unsigned left 1) s at (refused (by_at 2 at))
      rest_large l h =
          let i : left - 1 ≡ 0 = omega arith in
          due_kept
          (reading_from (row_large (unsigned left 1) (get_or s at 0 ∷ drop (suc at) s) (omega arith) (omega arith) (rw i (lt-leb (get_or s at 0) 1 h)))
          ∙ same_place (omega arith))

      pub rest_last : (left < 2 → get_or s at 0 ≤ 1) → Reads (unsigned left 1) s at (gives (get_or s at 0, 1))
      unfolding digits
      rest_last f =
          let z = run_low (get_or s at 0) (drop (suc at) s) low in
          due_kept
          (reading_from (row_number (unsigned left 1) (get_or s at 0 ∷ drop (suc at) s) (rw z (omega arith)) (rw z (omega arith))
          (λ e. rw z (le-leb (get_or s at 0) 1 (f (omega arith)))) (λ h. absurd (omega arith)))
          ∙ rw (z, mod-eq_of_lt low, add-zero))

    module _ (high : 128 ≤ get_or s at 0) where
      pub rest_overrun : left < 2 → Reads (unsigned left 1) s at (refused (by_at 2 at))
      rest_overrun l =
          due_kept
          (overrun_large (unsigned left 1) (sound left 1 some (omega arith)) s at (omega arith)
          (rw (bytes_from, run_high (get_or s at 0) (drop (suc at) s) high) (omega arith))
          ∙ same_place (omega arith))

      pub rest_ahead : 1 < left → {a : Answer (ℕ × ℕ)} → a ≡ read (unsigned (left - 1) 1) s (at + 1) → read (unsigned left 1) s at ≡ byte_ahead (get_or s at 0) (at + 1) a
      rest_ahead h p =
          let rest = drop (suc at) s in
          let less = reading (unsigned (left - 1) 1) rest in
          let n : suc (left - 1) ≡ left = omega arith in
          let q : reading (unsigned left 1) (get_or s at 0 ∷ rest) ≡ byte_ahead (get_or s at 0) 1 (moved 1 less) =
          subst (λ (m : ℕ). reading (unsigned m 1) (get_or s at 0 ∷ rest) ≡ byte_ahead (get_or s at 0) 1 (moved 1 less)) n
          (reading_step (left - 1) 1 (omega arith) (get_or s at 0) rest high) in
          let d : read (unsigned (left - 1) 1) s (at + 1) ≡ moved (at + 1) less =
          read_from (unsigned (left - 1) 1) s (at + 1) (omega arith) (ap (λ (i : ℕ). reading (unsigned (left - 1) 1) (drop i s)) (add-one at)) in
          reading_from q ∙ ahead_moved (get_or s at 0) at less ∙ ap (byte_ahead (get_or s at 0) (at + 1)) (sym (p ∙ d))

pub reads_joins : (most : ℕ) (s : List ℕ) (at : ℕ) (a : Answer (ℕ × ℕ)) → 0 < most → most < 10 → Bytes s → a ≡ read (unsigned most 1) s at → Joins a
reads_joins most s at (gives x) some few bytes p =
    let g = read_stands (unsigned most 1) s at (sound most 1 some (omega arith)) bytes (sym p) in
    let u : x.0 < 128 ^ (most - 1) * (1 + 1) = (read_begins most 1 some (omega arith) s at bytes (sym p)).of_width in
    let c : x.1 ≤ most = count_within (unsigned most 1) (sound most 1 some (omega arith)) g in
    let h : 128 ^ (most - 1) ≤ 128 ^ 8 = pow_up (most - 1) 8 (omega arith) in
    (omega arith, omega arith)
reads_joins most s at (refused k) some few bytes p = tt

pub joins_room : {r : Reading ℕ} {v : ℕ} {n : Count} → r ≡ Ok (v, n) → Joins (means_read r) → (v < 2 ^ 57) × (n.0 < 10)
joins_room e j = rw e at j

-- a byte in front of an answer, by its case
module _ (b p : ℕ) {r : Reading ℕ} where
  module _ {v : ℕ} {n : Count} (e : r ≡ Ok (v, n)) where
    pub ahead_zero : v < 1 → byte_ahead b p (means_read r) ≡ refused (by_at 3 p)
    ahead_zero z = rw (e, eq-eqb v 0 (omega arith))

    pub ahead_number : 1 ≤ v → byte_ahead b p (means_read r) ≡ gives (b % 128 + 128 * v, n.0 + 1)
    ahead_number z = rw (e, ne_eqb v 0 (λ q. omega arith))

  pub ahead_case : {q : Reading ℕ} → r ≡ q → byte_ahead b p (means_read r) ≡ byte_ahead b p (means_read q)
  ahead_case e = rw e
