-- The walk over the bytes from a start on, l: what its loop holds, and what is answered at each way out of it. A high byte is 128 or more.
--
--   WalkedSoFar l high sum weight   high ones stand at the front of l, their count high; they sum to sum, and the next one weighs weight
--   byte_taken                      a byte of the front of l is that of l
--   none_walked                     so it is with no byte
--   part_fits, weight_fits          with eight of them at most, the next sum is below 2 to the 63 and the next weight below 2 to the 64
--   one_walked                      so it is behind one high byte more
--   walk_closes                     a byte below 128: `Closed`
--   walk_overruns                   a tenth high byte: `Long`
--   walk_runs_dry                   the end of the bytes: `Open`
--   walks_from                      what `walking` says of the bytes from the place on is what `walked` says at the place
--   walk_past                       a start past the end: `Past`
use Prim.Native.Nat.{ℕ, suc, ◌+◌, ◌*◌, ◌%◌, ◌^◌, ◌≤◌, ◌<◌}
use mathlib.Core.Path.{◌≡◌, refl}
use mathlib.Core.List.{List}
use native.Mathlib.Nat.{mul_comm, pow-succ', mul-le-mul_left}
use native.Mathlib.Numerals.{add-one}
use native.Mathlib.Omega.{arith}
use borrow.Author.Tests.{lt-ltb, le-ltb, le-leb, lt-leb, eq-eqb, ne_eqb}
use lib.ListN.{length, get_or, take, drop, length-drop}
use lib.Seq.{take-length}
use Rattle.std.specs.List.{slice_range}
use Rattle.std.proofs.lemmas.List.{get_or-take, length-take}
use Rattle.groups.specs.Group.{run, digits}
use Rattle.groups.specs.Promise.{walking, walked, Walks}
use Rattle.groups.specs.declared.Walked.{Walked}
use Rattle.groups.specs.declared.Walked.TheVariants.{Past, Open, Long, Closed}
use Rattle.groups.proofs.Run.{run_within, run_more, run_ends, digits_take, digits_take_below, pow_up}

-- what the loop has done: the high bytes passed, what they sum to, and what the next one weighs
pub record WalkedSoFar (l : List ℕ) (high sum weight : ℕ) : Type 0 where
  pub passed : high ≤ run l
  pub weighs : weight ≡ 128 ^ high
  pub sums : sum ≡ digits (take high l)

-- a byte of the front of l is that of l
pub byte_taken : (l : List ℕ) (m : ℕ) {high : ℕ} → high < length (take m l) → get_or (take m l) high 0 ≡ get_or l high 0
byte_taken l m {high} h = get_or-take m l high 0 (omega (arith, length-take m l))

pub none_walked : (l : List ℕ) → WalkedSoFar l 0 0 1
unfolding digits
none_walked l = record { passed = omega arith; weighs = refl; sums = refl }

module _ {l : List ℕ} {high sum weight : ℕ} (g : WalkedSoFar l high sum weight) where
  -- the sum is below the weight, so that seven bits more stay below 128 times it
  sum_below : sum < weight
  sum_below = omega (arith, digits_take_below l high (omega (arith, run_within l, g.passed)), g.sums, g.weighs)

  pub part_fits : (d : ℕ) → high < 9 → d < 128 → sum + weight * d < 2 ^ 63
  part_fits d h l =
      let m : weight * d ≤ weight * 127 = mul-le-mul_left weight (omega arith) in
      let p : 128 ^ suc high ≤ 128 ^ 9 = pow_up (suc high) 9 (omega arith) in
      omega (arith, sum_below, pow-succ' 128 high, mul_comm weight 127)

  pub weight_fits : high < 9 → weight * 128 < 2 ^ 64
  weight_fits h =
      let p : 128 ^ suc high ≤ 128 ^ 9 = pow_up (suc high) 9 (omega arith) in
      omega (arith, pow-succ' 128 high)

  pub one_walked : {b : ℕ} → b ≡ get_or l high 0 → high < length l → 128 ≤ b → WalkedSoFar l (high + 1) (sum + weight * (b % 128)) (weight * 128)
  one_walked e there h = record {
    passed = rw add-one (run_more l high g.passed there (rw (← e) h));
    weighs = rw (add-one, g.weighs) (omega (arith, pow-succ' 128 high));
    sums = rw (digits_take l high there, ← e, ← g.sums, ← g.weighs);
  }

  pub walk_closes : {b : ℕ} → b ≡ get_or l high 0 → high < length l → high < 10 → b < 128 → Closed sum weight (record { 0 = high }) b ≡ walking l
  unfolding walking
  walk_closes e there few h =
      let r : run l ≡ high = run_ends l high g.passed (rw (← e) h) in
      let ne : high ≡ length l → ⊥ = λ q. omega arith in
      rw (r, lt-leb 10 high few, ne_eqb high (length l) ne, ← e, ← g.sums, ← g.weighs)

  pub walk_overruns : {b : ℕ} → b ≡ get_or l high 0 → high < length l → 8 < high → 128 ≤ b → Long ≡ walking l
  unfolding walking
  walk_overruns e there many h =
      let r : suc high ≤ run l = run_more l high g.passed there (rw (← e) h) in rw (le-leb 10 (run l) (omega arith))

  pub walk_runs_dry : length l ≤ high → high < 10 → Open (record { 0 = high }) ≡ walking l
  unfolding walking
  walk_runs_dry h few =
      let e : run l ≡ high = omega (arith, run_within l, g.passed) in
      rw (e, lt-leb 10 high few, eq-eqb high (length l) (omega (arith, run_within l, g.passed)))

pub walks_from : {s : List ℕ} {at : ℕ} {r : Walked} → at ≤ length s → r ≡ walking (slice_range s at (length s)) → Walks s at r
unfolding walked
walks_from {s} {at} h w =
    let rest : slice_range s at (length s) ≡ drop at s = rw (← length-drop at s) (take-length (drop at s)) in
    record { is = rw (le-ltb (length s) at h, ← rest) w }

pub walk_past : {s : List ℕ} {at : ℕ} → length s < at → Walks s at Past
unfolding walked
walk_past {s} {at} h = record { is = rw (lt-ltb (length s) at h) }
