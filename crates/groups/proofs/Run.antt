-- Laws of `run`, of high bytes and of `digits`. A high byte is 128 or more.
--
--   run_low, run_high         a first byte below 128 makes the run 0, a high one makes it one longer than that of the rest
--   run_within                the run is no longer than the bytes
--   in_run, at_run            the bytes that it counts are high, and the one behind them is below 128
--   run_drop                  behind some of the bytes that it counts, the run is shorter by as many
--   run_more, run_ends        where the run is at least i, a high byte at i makes it longer, and one below 128 makes it i
--   high_run, run_take_high   the first j bytes are high exactly where the run is at least j
--   high_full, full_high      all the bytes are high exactly where the run is as long as they are
--   digits_more               what a byte behind the others adds to the digits
--   digits_below              the digits of n bytes are below 128 to the n
--   digits_take               the digits of the first i + 1 bytes, from those of the first i
--   digits_take_below         the digits of the first i bytes are below 128 to the i
--   pow_up                    a higher power of 128 is no smaller
--   below_limit               a number is below 128 to the k, times top + 1, where at most k bytes stand before its last one, and behind k
--                             the last one says at most top
use Prim.Native.Nat.{ℕ, zero, suc, ◌+◌, ◌*◌, ◌%◌, ◌^◌, ◌≤◌, ◌<◌}
use mathlib.Core.Path.{◌≡◌, ap, ◌∙◌}
use mathlib.Core.List.{List, [], ◌∷◌, ◌++◌}
use native.Mathlib.Nat.{mul-add, mul_assoc, mul-le-mul_left, pow-succ', pow-le-pow_right}
use native.Mathlib.Numerals.{add-one}
use native.Mathlib.Omega.{arith}
use borrow.Author.Tests.{lt-ltb, le-ltb}
use lib.ListN.{length, get_or, take, drop}
use lib.Seq.{take-suc, length-take-le, get_or-take, take-length}
use Rattle.words.proofs.Cases.{by_order}
use Rattle.groups.specs.Group.{High, run, digits}

pub run_low : (b : ℕ) (s : List ℕ) → b < 128 → run (b ∷ s) ≡ 0
unfolding run
run_low b s h = rw (lt-ltb b 128 h)

pub run_high : (b : ℕ) (s : List ℕ) → 128 ≤ b → run (b ∷ s) ≡ suc (run s)
unfolding run
run_high b s h = rw (le-ltb b 128 h)

pub run_within : (s : List ℕ) → run s ≤ length s
unfolding run
run_within [] = omega arith
run_within (b ∷ s) =
    let ih : run s ≤ length s = run_within s in
    by_order b 128 (λ h. rw (run_low b s h) (omega arith)) (λ h. rw (run_high b s h) (omega arith))

-- the bytes that `run` counts are 128 or more
pub in_run : (s : List ℕ) (i : ℕ) → i < run s → 128 ≤ get_or s i 0
unfolding run
in_run [] i h = absurd (omega arith)
in_run (b ∷ s) zero h =
    by_order b 128 (λ l. let e : run (b ∷ s) ≡ 0 = run_low b s l in absurd (omega arith)) (λ l. l)
in_run (b ∷ s) (suc i) h =
    by_order b 128 (λ l. let e : run (b ∷ s) ≡ 0 = run_low b s l in absurd (omega arith))
    (λ l. let e : run (b ∷ s) ≡ suc (run s) = run_high b s l in in_run s i (omega arith))

-- some of them left out
pub run_drop : (s : List ℕ) (i : ℕ) → i ≤ run s → run s ≡ i + run (drop i s)
unfolding run
run_drop s zero h = omega arith
run_drop [] (suc i) h = absurd (omega arith)
run_drop (b ∷ s) (suc i) h =
    by_order b 128 (λ l. let e : run (b ∷ s) ≡ 0 = run_low b s l in absurd (omega arith))
    (λ l. let e : run (b ∷ s) ≡ suc (run s) = run_high b s l in omega (arith, run_drop s i (omega arith)))

-- and the one behind them is below
pub at_run : (s : List ℕ) → run s < length s → get_or s (run s) 0 < 128
unfolding run
at_run [] h = absurd (omega arith)
at_run (b ∷ s) h =
    by_order b 128 (λ l. rw (run_low b s l) l)
    (λ l. let e : run (b ∷ s) ≡ suc (run s) = run_high b s l in rw e (at_run s (omega arith)))

-- one byte more of 128 or more
pub run_more : (s : List ℕ) (i : ℕ) → i ≤ run s → i < length s → 128 ≤ get_or s i 0 → suc i ≤ run s
run_more s i le in-s high =
    by_order i (run s) (λ l. l)
    (λ l. let e : run s ≡ i = omega arith in let f : get_or s (run s) 0 < 128 = at_run s (omega arith) in
    let g : get_or s i 0 < 128 = rw e at f in absurd (omega arith))

-- the first byte below 128
pub run_ends : (s : List ℕ) (i : ℕ) → i ≤ run s → get_or s i 0 < 128 → run s ≡ i
run_ends s i le low = by_order i (run s) (λ l. let f : 128 ≤ get_or s i 0 = in_run s i l in absurd (omega arith)) (λ l. omega arith)

-- high bytes are those that `run` counts
pub high_run : (l : List ℕ) (j : ℕ) → j ≤ length l → High (take j l) → j ≤ run l
high_run l j h f =
    by_order (run l) j
    (λ lt.
    let b : get_or l (run l) 0 < 128 = at_run l (omega arith) in
    let t : get_or (take j l) (run l) 0 ≡ get_or l (run l) 0 = get_or-take j l (run l) 0 lt in
    absurd (omega (arith, f (run l) (rw (length-take-le j l h) lt))))
    (λ ge. ge)

pub run_take_high : (l : List ℕ) (j : ℕ) → j ≤ run l → High (take j l)
run_take_high l j h i lt =
    let n : length (take j l) ≡ j = length-take-le j l (omega (arith, run_within l)) in
    let k : i < j = omega arith in
    rw (get_or-take j l i 0 k) (in_run l i (omega arith))

pub high_full : (l : List ℕ) → High l → run l ≡ length l
high_full l h = omega (arith, run_within l, high_run l (length l) (omega arith) (rw (take-length l) h))

pub full_high : (l : List ℕ) → length l ≤ run l → High l
full_high l h = rw (take-length l) at (run_take_high l (length l) h)

-- the digits, a byte more
pub digits_more : (g : List ℕ) (b : ℕ) → digits (g ++ b ∷ []) ≡ digits g + 128 ^ length g * (b % 128)
unfolding digits
digits_more [] b = omega arith
digits_more (c ∷ g) b =
    rw (digits_more g b)
    (omega (arith, ap (λ (n : ℕ). n * (b % 128)) (pow-succ' 128 (length g)), mul_assoc 128 (128 ^ length g) (b % 128)))

pub digits_below : (g : List ℕ) → digits g < 128 ^ length g
unfolding digits
digits_below [] = omega arith
digits_below (b ∷ g) = let ih : digits g < 128 ^ length g = digits_below g in omega (arith, pow-succ' 128 (length g))

pub digits_take : (l : List ℕ) (i : ℕ) → i < length l → digits (take (i + 1) l) ≡ digits (take i l) + 128 ^ i * (get_or l i 0 % 128)
digits_take l i h =
    let e : length (take i l) ≡ i = length-take-le i l (omega arith) in
    rw (add-one, take-suc l i 0 h, digits_more (take i l) (get_or l i 0), e)

pub digits_take_below : (l : List ℕ) (i : ℕ) → i ≤ length l → digits (take i l) < 128 ^ i
digits_take_below l i h = rw (length-take-le i l h) at (digits_below (take i l))

pub pow_up : (i j : ℕ) → i ≤ j → 128 ^ i ≤ 128 ^ j
pow_up i j h = pow-le-pow_right (omega arith) h

-- low bytes that say less than the weight of a last one that says d: of at most k bytes in all, or of k + 1 with d at most top,
-- they are below 128 to the k times top + 1
pub below_limit : {low weight high d : ℕ} → low < weight → weight ≡ 128 ^ high → d < 128 → (k top : ℕ) → high ≤ k → (high ≡ k → d ≤ top)
    → low + weight * d < 128 ^ k * (top + 1)
below_limit {low} {weight} {high} {d} l e s k top h f =
    by_order high k
    (λ lt.
    let a : weight * d ≤ weight * 127 = mul-le-mul_left weight (omega arith) in
    let b : 128 ^ suc high ≤ 128 ^ k = pow_up (suc high) k lt in
    let c : 128 ^ k * 1 ≤ 128 ^ k * (top + 1) = mul-le-mul_left (128 ^ k) (omega arith) in
    omega (arith, pow-succ' 128 high))
    (λ ge.
    let q : high ≡ k = omega arith in
    let p : weight ≡ 128 ^ k = e ∙ ap (λ (i : ℕ). 128 ^ i) q in
    let a : weight * d ≤ weight * top = mul-le-mul_left weight (f q) in
    rw (← p) (omega (arith, mul-add weight top 1)))
