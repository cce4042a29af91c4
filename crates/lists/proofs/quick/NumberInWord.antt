-- The number that stands in a word, from the digits of its eight bytes.
--
--   lows_below, lows_digits     the seven bits of each byte of a word are below 128, and their digits are those of the word
--   digits_eight                the digits of eight bytes are below 128 to the 8
--   weight_some                 the weight that `short` shifts to its place is not 0
--   found_short                 the remainder by the weight is the number of the bytes through the first below 128
--   found_two                   so are the digits of two bytes, where the second is the first below 128
--   run_one                     which the mask for two bytes tells
--   longest_nine, longest_ten   the ninth byte added as a digit, and a tenth that is 1
use Prim.Native.Nat.{ℕ, zero, suc, ◌+◌, ◌*◌, ◌/◌, ◌%◌, ◌^◌, ◌≤◌, ◌<◌}
use mathlib.Core.Path.{◌≡◌, refl, ap, ◌∙◌}
use mathlib.Core.List.{List, [], ◌∷◌}
use native.Mathlib.Nat.{pow-succ', mul_assoc, add-mul-mod_self_left, mod-eq_of_lt}
use native.Mathlib.Omega.{arith}
use lib.Bits.{bit_and}
use lib.ListN.{length, take, drop}
use lib.Pow.{pow-add}
use Rattle.groups.specs.Group.{run, digits}
use Rattle.groups.proofs.Run.{run_low, run_high, digits_below, digits_take_below, pow_up}
use Rattle.lists.specs.InnerWord.{little, spread, each, low, Below}
use Rattle.lists.specs.InnerWide.{Found, Longest}
use Rattle.lists.proofs.quick.Bytewise.{below_each, length_spread, spread_each, two_tops}

digits_each : (g : List ℕ) → digits (each low g) ≡ digits g
unfolding each digits
digits_each [] = refl
digits_each (b ∷ g) = omega (arith, digits_each g)

module _ (w : ℕ) {m : ℕ} (e : m ≡ little (each low (spread 8 w))) where
  lows_are : spread 8 m ≡ each low (spread 8 w)
  lows_are = spread_each low 8 w (below_each low 256 (λ b. omega arith) (spread 8 w)) e

  pub lows_below : Below 128 (spread 8 m)
  lows_below = rw lows_are (below_each low 128 (λ b. omega arith) (spread 8 w))

  pub lows_digits : digits (spread 8 m) ≡ digits (spread 8 w)
  lows_digits = ap digits lows_are ∙ digits_each (spread 8 w)

pub digits_eight : (w : ℕ) → digits (spread 8 w) < 128 ^ 8
digits_eight w = rw (length_spread 8 w) at (digits_below (spread 8 w))

digits_split : (k : ℕ) (g : List ℕ) → digits g ≡ digits (take k g) + 128 ^ k * digits (drop k g)
unfolding digits
digits_split zero g = omega arith
digits_split (suc k) [] = omega arith
digits_split (suc k) (b ∷ g) =
    omega (arith, digits_split k g, ap (λ (n : ℕ). n * digits (drop k g)) (pow-succ' 128 k), mul_assoc 128 (128 ^ k) (digits (drop k g)))

digits_first : (k : ℕ) (g : List ℕ) → k ≤ length g → digits g % 128 ^ k ≡ digits (take k g)
digits_first k g h =
    rw (digits_split k g, add-mul-mod_self_left (digits (take k g)) (128 ^ k) (digits (drop k g))) (mod-eq_of_lt (digits_take_below g k h))

bits_weight : (k : ℕ) → 2 ^ (7 * k) ≡ 128 ^ k
bits_weight zero = refl
bits_weight (suc k) =
    let e : 7 * suc k ≡ 7 * k + 7 = omega arith in
    ap (λ (n : ℕ). 2 ^ n) e ∙ pow-add 2 (7 * k) 7 ∙ omega (arith, bits_weight k, pow-succ' 128 k)

weight_is : (k : ℕ) → k ≤ 8 → 1 * 2 ^ (7 * k) % 2 ^ 64 ≡ 128 ^ k
weight_is k h =
    let e : 1 * 2 ^ (7 * k) ≡ 128 ^ k = omega (arith, bits_weight k) in
    let l : 128 ^ k ≤ 128 ^ 8 = pow_up k 8 h in
    rw e (mod-eq_of_lt (omega arith))

pub weight_some : (k : ℕ) → k ≤ 8 → 0 < 1 * 2 ^ (7 * k) % 2 ^ 64
weight_some k h = rw (weight_is k h) (let l : 128 ^ 0 ≤ 128 ^ k = pow_up 0 k (omega arith) in omega arith)

module _ (w : ℕ) where
  pub found_short : {r j : ℕ} → run (spread 8 w) < 8 → r ≡ run (spread 8 w) → j ≡ digits (spread 8 w)
      → Found (spread 8 w) (j % (1 * 2 ^ (7 * (r + 1)) % 2 ^ 64)) (r + 1)
  found_short h e f =
      let g = spread 8 w in
      record {
        value = rw (e, f, weight_is (run g + 1) (omega arith)) (digits_first (run g + 1) g (omega (arith, length_spread 8 w)));
        count = rw e;
      }

  pub found_two : {a b : ℕ} → run (spread 8 w) ≡ 1 → a ≡ w % 128 → b ≡ w / 256 % 128 → Found (spread 8 w) (a + 128 * b) 2
  unfolding spread digits
  found_two r e f = record { value = rw r (omega arith); count = rw r }

  pub run_one : w < 2 ^ 64 → bit_and w 32896 ≡ 128 → run (spread 8 w) ≡ 1
  unfolding spread
  run_one l h =
      let e = two_tops l in
      run_high (w % 256) _ (omega arith) ∙ ap suc (run_low (w / 256 % 256) _ (omega arith))

module _ (g : List ℕ) {b s x : ℕ} (e : s ≡ digits g) where
  pub longest_nine : b < 128 → x ≡ b → Longest g b (s + 128 ^ 8 * x) 9
  longest_nine h f = record { nine = λ l. (omega arith, refl); ten = λ l. absurd (omega arith) }

  pub longest_ten : 128 ≤ b → x ≡ b % 128 → Longest g b (s + 128 ^ 8 * x + 128 ^ 9) 10
  longest_ten h f = record { nine = λ l. absurd (omega arith); ten = λ l. (omega arith, refl) }
