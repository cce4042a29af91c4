-- A reader from a start, a reader set down anywhere, and a reader of a copy whose front is lost.
--
--   reader_from       from a start, it gives exactly the groups that begin there or later
--   reader_set_down   set down at any place, exactly those that begin there or later; where there is no start there or later, none does
--   front_lost        set down at place 1 of a copy without the first k bytes, exactly the original's from that start on, their places less k; where
--                     set-down refuses, the copy is above the limit, or none begins in it
use Prim.Native.Nat.{ℕ, ◌+◌, ◌-◌, ◌≤◌, ◌<◌}
use mathlib.Core.Path.{◌≡◌, ap, sym, ◌∙◌}
use mathlib.Core.List.{List}
use mathlib.Core.Logic.{inr, ⊎_elim}
use native.Mathlib.Omega.{arith}
use lib.ListN.{length, get_or, take, drop, length-drop, take-append-drop, drop_of_length-le}
use lib.Seq.{length-take-le, drop-drop, get_or-drop}
use Rattle.std.specs.Prelude.{Ok, Err}
use Rattle.words.specs.declared.Refusal.{Refusal}
use Rattle.words.specs.declared.Refusal.TheVariants.{NoStart}
use Rattle.words.proofs.Cases.{by_order}
use Rattle.groups.specs.Group.{run}
use Rattle.groups.proofs.Run.{full_high}
use Rattle.blocks.specs.GroupsAndTail.{cut, Start}
use Rattle.blocks.specs.Places.{placed, listed, from, less}
use Rattle.blocks.specs.Rows.{Least, SetDownRefused}
use Rattle.blocks.specs.Rows.SetDownRefused.{too_long, past, no_start}
use Rattle.blocks.specs.Readings.{Block}
use Rattle.blocks.proofs.FromStart.{front_start}
use Rattle.blocks.proofs.Places.{high_from, from_placed, begins_from, less_placed}
use Rattle.blocks.proofs.SetDownRows.{set_down_rows, not_before, start_there}
use Rattle.blocks.proofs.Readings.{reads_exactly, as_groups}
use Rattle.claims.specs.OfBlocks.{ReaderFrom, ReaderSetDown}
use Rattle.claims.specs.OfDamage.{FrontLost, CopyRefused}
use Rattle.claims.specs.OfDamage.CopyRefused.{above_limit, no_byte, all_high}

pub reader_from : ReaderFrom
reader_from f s p l block k = as_groups f (from_placed s p k) (reads_exactly f s block p l k)

-- the groups that begin at p or later begin at the least start there or behind it
settled_groups : (s : List ℕ) (p c : ℕ) → Least s p c → from p (listed s) ≡ placed c (cut (drop c s)).groups
settled_groups s p c m =
    let h = m.from in
    let k = m.start in
    let least = m.none_before in
    by_order 0 p
    (λ some.
    let b = drop (p - 1) s in
    let low = not_before s p (omega arith) c h k in
    let there = start_there s p (omega arith) (omega (arith, low, k.here)) in
    let e : c ≡ p + run b = by_order (p + run b) c (λ l. absurd (least (p + run b) (omega arith) l there)) (λ l. omega (arith, low)) in
    let t : length (take (p - 1) s) ≡ p - 1 = length-take-le (p - 1) s (omega (arith, k.here)) in
    let j : p - 1 + (run b + 1) ≡ c = omega (arith, e) in
    let d : drop (run b + 1) b ≡ drop c s = drop-drop (run b + 1) (p - 1) s ∙ ap (λ (i : ℕ). drop i s) j in
    let m : length (take (p - 1) s) + run b + 1 ≡ c = omega (arith, e, t) in
    ap (λ (l : List ℕ). from p (listed l)) (sym (take-append-drop (p - 1) s))
    ∙ begins_from (take (p - 1) s) b p (omega (arith, t)) (omega (arith, t))
    ∙ rw (d, m))
    (λ none.
    let front = front_start s in
    let e : c ≡ 0 = by_order 0 c (λ l. absurd (least 0 (omega arith) l front)) (λ l. omega arith) in
    let z : p ≡ 0 = omega arith in
    rw (e, z) (from_placed s 0 front))

-- where no start is behind p, no byte from p on is below 128
none_low : (s : List ℕ) (p : ℕ) → ((q : ℕ) → p < q → Start s q → ⊥) → length (drop p s) ≤ run (drop p s)
none_low s p none =
    let e : p + 1 - 1 ≡ p = omega arith in
    by_order (run (drop p s)) (length (drop p s))
    (λ l. absurd (none (p + 1 + run (drop p s)) (omega arith) (rw e at (start_there s (p + 1) (omega arith) (rw e (omega (arith, length-drop p s)))))))
    (λ l. l)

pub reader_set_down : ReaderSetDown
reader_set_down f s p bytes = (
  λ c l a.
      let w = (set_down_rows s p (Ok c)).0 a in
      let k : Least s p c.place.0 = w.1 in
      as_groups f (settled_groups s p c.place.0 k) (reads_exactly f s (record { bytes = bytes; short = w.0 }) c.place.0 l k.start),
  λ a. elim ((set_down_rows s p (Err NoStart)).0 a) [ no_start f here none ↦ high_from s p (none_low s p (λ q l. none q (omega arith))) ],
)

-- a start behind place 0 of what is left is a start of the whole
start_behind : (o : List ℕ) (k q : ℕ) → 0 < q → Start (drop k o) q → Start o (k + q)
start_behind o k q some st = record {
  here = omega (arith, st.here, length-drop k o);
  behind = inr (
    omega arith,
    ⊎_elim (λ (e : q ≡ 0). absurd (omega arith))
        (λ (b : (0 < q) × (get_or (drop k o) (q - 1) 0 < 128)). let i : k + q - 1 ≡ k + (q - 1) = omega arith in rw (i, ← (get_or-drop k o (q - 1) 0)) b.1)
        st.behind,
  );
}

copy_refused : (o : List ℕ) (k : ℕ) (why : Refusal) → SetDownRefused (drop k o) 1 why → CopyRefused o k why
copy_refused o k _ (too_long h) = above_limit h
copy_refused o k _ (past f h) =
    no_byte (drop_of_length-le o {i = k} (omega (arith, length-drop k o))) (high_from o k (omega arith))
copy_refused o k _ (no_start f here none) =
    let high : length (drop k o) ≤ run (drop k o) = none_low (drop k o) 0 none in
    all_high (full_high (drop k o) high) (high_from o k high)

pub front_lost : FrontLost
front_lost f o k bytes = (
  λ c l a.
      let s = drop k o in
      let q = c.place.0 in
      let w = (set_down_rows s 1 (Ok c)).0 a in
      let m : Least s 1 c.place.0 = w.1 in
      let block : Block s = record { bytes = λ i. rw (get_or-drop k o i 0) (bytes (k + i)); short = w.0 } in
      let e : less k (from (k + q) (listed o)) ≡ placed q (cut (drop q s)).groups =
      ap (less k) (from_placed o (k + q) (start_behind o k q m.from m.start)) ∙ less_placed k q (cut (drop (k + q) o)).groups ∙ rw (drop-drop q k o) in
      as_groups f e (reads_exactly f s block q l m.start),
  λ why a. copy_refused o k why ((set_down_rows (drop k o) 1 (Err why)).0 a),
)
