-- How many bytes are below 128. `lows` counts them.
--
--   number_closed         where a number is read, its last byte is there
--   lows_left             from a place on: as many as numbers stand from there to another, and those behind that
--   lows_whole            of a block of numbers: as many as numbers
--   lows_part             before a place up to which numbers stand: as many as they are
use Prim.Native.Nat.{ℕ, suc, ◌+◌, ◌≤◌, ◌<◌}
use mathlib.Core.Path.{◌≡◌, refl, ap, sym, ◌∙◌}
use mathlib.Core.Bool.{cond}
use native.Mathlib.Nat.{zero-add}
use mathlib.Core.List.{List, [], ◌∷◌}
use native.Mathlib.Omega.{arith}
use borrow.Author.Tests.{lt-ltb, le-ltb, lt-leb}
use lib.ListN.{length, get_or, take, drop, take-append-drop}
use lib.Seq.{drop-drop, drop-length}
use Rattle.std.proofs.lemmas.List.Sums.{sum_by-cons, sum_by-append}
use Rattle.words.specs.Answer.{gives}
use Rattle.words.proofs.Cases.{by_order}
use Rattle.words.proofs.OneMeaning.{apart}
use Rattle.groups.specs.Group.{run}
use Rattle.groups.specs.Width.{reading}
use Rattle.groups.proofs.Run.{run_low, run_high, run_within, in_run}
use Rattle.groups.proofs.Rows.{row_end, row_large}
use Rattle.groups.proofs.Stands.{reading_count}
use Rattle.uleb128.specs.Unsigned.{u64}
use Rattle.lists.specs.InnerLeft.{Left, done, one, ends, lows}

-- what a byte counts
abbrev ending : ℕ → ℕ
ending b = cond (ends b) 1 0

-- a byte in front
low_front : (b : ℕ) (l : List ℕ) → b < 128 → lows (b ∷ l) ≡ 1 + lows l
low_front b l h = sum_by-cons ending b l ∙ rw (lt-ltb b 128 h) refl

high_front : (b : ℕ) (l : List ℕ) → 128 ≤ b → lows (b ∷ l) ≡ lows l
high_front b l h = sum_by-cons ending b l ∙ rw (le-ltb b 128 h) (zero-add (lows l))

-- a group has one byte below 128, its last
lows_group : (l : List ℕ) → run l < length l → lows l ≡ 1 + lows (drop (run l + 1) l)
lows_group [] h = absurd (omega arith)
lows_group (b ∷ l) h =
    by_order b 128 (λ o. rw (run_low b l o) (low_front b l o ∙ omega arith))
    (λ o.
    let e : run (b ∷ l) ≡ suc (run l) = run_high b l o in
    let i : suc (run l) + 1 ≡ suc (run l + 1) = omega arith in
    rw (e, i) (high_front b l o ∙ lows_group l (omega arith)))

-- where a number is read, its last byte is there
pub number_closed : (l : List ℕ) {p : ℕ × ℕ} → reading u64 l ≡ gives p → run l < length l
number_closed l e =
    by_order (run l) (length l) (λ h. h)
    (λ h.
    by_order (run l) 10 (λ k. apart (sym e ∙ row_end u64 l (omega (arith, run_within l)) k))
    (λ k.
    let large : 1 < get_or l 9 0 = omega (arith, in_run l 9 (omega arith)) in
    apart (sym e ∙ row_large u64 l (omega (arith, run_within l)) (omega arith) (lt-leb (get_or l 9 0) 1 large))))

pub lows_left : {s : List ℕ} {to at : ℕ} {vs : List ℕ} → Left s to at vs → lows (drop at s) ≡ length vs + lows (drop to s)
lows_left done = omega arith
lows_left {s} (one {at} {v} {n} e l) =
    let c : n ≡ run (drop at s) + 1 = reading_count u64 (drop at s) e in
    let q = lows_group (drop at s) (number_closed (drop at s) e) in
    let d : drop (run (drop at s) + 1) (drop at s) ≡ drop (at + n) s = rw c (drop-drop (run (drop at s) + 1) at s) in
    omega (arith, lows_left l, ap lows d)

pub lows_part : {s : List ℕ} {mid : ℕ} {vs : List ℕ} → Left s mid 0 vs → lows (take mid s) ≡ length vs
lows_part {s} {mid} l = omega (arith, lows_left l, sum_by-append ending (take mid s) (drop mid s), ap lows (take-append-drop mid s))

pub lows_whole : {s : List ℕ} {vs : List ℕ} → Left s (length s) 0 vs → lows s ≡ length vs
lows_whole {s} l = omega (arith, lows_left l, ap lows (drop-length s))
