-- A word is good exactly when its float is.
--
--   good_not_bad   a good word's float is not bad,
--   bad_found      and that of any other word of 32 bits is
use Prim.Native.Nat.{ℕ, zero, suc, ◌+◌, ◌-◌, ◌*◌, ◌/◌, ◌%◌, ◌^◌, ◌≤◌, ◌<◌}
use mathlib.Core.Bool.{Bool, true, false}
use mathlib.Core.Path.{◌≡◌, refl, sym, ap, ◌∙◌}
use native.Mathlib.Nat.{zero-mul, zero-div, mul-one, mul-pos}
use native.Mathlib.Omega.{arith}
use borrow.Author.Tests.{le-leb, lt-ltb, le-ltb, eqb-true, leb-true, ne_eqb, eq-eqb}
use lib.Dec.{leb, eqb}
use lib.IntN.{ℤ, pos}
use lib.Ieee.{Float, nan, inf, fin, binary32, prec, low, odd, of_fields, of_bits, to_bits, is_nan, lt, up, down, size}
use lib.Ieee.Bits.{nan_bits_is, nan_bits_above}
use lib.Ieee.Fits.{up_pos}
use lib.Ieee.Scale.{finite}
use Rattle.words.proofs.Cases.{by_order, by_test, clash}
use Rattle.slips.specs.Good.{Measure, torque, angle, sign_bit, infinity, is_below_zero, good_word}
use Rattle.slips.proofs.GoodBits.{good_parts, parts_good, good_back}
use Rattle.claims.specs.OfSlips.{BadFloat, not_a_number, infinite, minus_zero, torque_below_zero}

-- a number, with its sign
record Number (below : Bool) (x : Float) : Type 0 where
  digits : ℕ
  exponent : ℤ
  is : x ≡ fin below digits exponent

odd_number : (d : ℕ) (s : Bool) (q k l : ℕ) → Number s (odd d s q k l)
unfolding odd
odd_number d s zero k l = record { digits = _; exponent = _; is = refl }
odd_number d s (suc q) k l = record { digits = _; exponent = _; is = refl }

fields_number : (s : Bool) (x t : ℕ) → x < 255 → Number s (of_fields binary32 s x t)
unfolding of_fields
fields_number s zero t h = odd_number (prec binary32) s t 0 (low binary32)
fields_number s (suc x) t h =
    let e : eqb (suc x) 255 ≡ false = ne_eqb (suc x) 255 (λ q. omega arith) in
    rw e (odd_number (prec binary32) s (8388608 + t) x (low binary32))

-- bits below an infinity's are a number's, with the sign that the highest bit says; an infinity's are an infinity's; those above it are no number's
finite_number : (w : ℕ) → w % sign_bit < infinity → Number (leb sign_bit w) (of_bits binary32 w)
unfolding of_bits
finite_number w h = fields_number (leb sign_bit w) (w % sign_bit / 8388608) (w % 8388608) (omega arith)

bits_infinite : (w : ℕ) → w % sign_bit ≡ infinity → of_bits binary32 w ≡ inf (leb sign_bit w)
unfolding of_bits of_fields
bits_infinite w h =
    let x : w % sign_bit / 8388608 ≡ 255 = omega arith in
    let t : w % 8388608 ≡ 0 = omega arith in
    rw (x, t)

nan_is : (x : Float) → is_nan x ≡ true → x ≡ nan
unfolding is_nan
nan_is nan e = refl
nan_is (inf s) e = clash refl e
nan_is (fin s m k) e = clash refl e

bits_nan : (w : ℕ) → infinity < w % sign_bit → of_bits binary32 w ≡ nan
bits_nan w h = nan_is (of_bits binary32 w) (sym (nan_bits_is binary32 w) ∙ nan_bits_above binary32 w ∙ lt-ltb infinity (w % sign_bit) h)

bits_minus_zero : (w : ℕ) → w ≡ sign_bit → of_bits binary32 w ≡ fin true 0 (pos 0)
unfolding of_bits of_fields odd
bits_minus_zero w e = rw e

minus_zero_bits : (e : ℤ) → to_bits binary32 (fin true 0 e) ≡ sign_bit
unfolding to_bits
minus_zero_bits e = ap (λ (n : ℕ). sign_bit + (size n - 24) * 8388608 + n / 2 ^ (size n - 24)) none
  where
    none : 0 * up e * 2 ^ 149 / down e ≡ 0
    none = rw (zero-mul (up e), zero-mul (2 ^ 149), zero-div (down e))

-- what lies below zero
plus_not_below : (d : ℕ) (e : ℤ) → lt (fin false d e) (fin false 0 (pos 0)) ≡ false
unfolding lt
plus_not_below d e = le-ltb (d * up e * 1) (0 * 1 * down e) (rw (zero-mul 1, zero-mul (down e)) (omega arith))

minus_below : (d : ℕ) (e : ℤ) → 0 < d → lt (fin true d e) (fin false 0 (pos 0)) ≡ true
unfolding lt
minus_below d e h =
    let p : 0 < d * up e * 1 = rw (mul-one (d * up e)) (mul-pos h (up_pos e)) in
    lt-ltb 0 (d * up e * 1 + 0 * 1 * down e) (omega arith)

module _ (m : Measure) (w : ℕ) (g : good_word m w ≡ true) where
  good_float : Number (leb sign_bit w) (of_bits binary32 w)
  good_float = finite_number w (good_parts m w g).finite

  good_not_minus_zero : {X : Type 0} (e : ℤ) → of_bits binary32 w ≡ fin true 0 e → X
  good_not_minus_zero e q =
      let z : w ≡ sign_bit = sym (good_back m w g) ∙ ap (to_bits binary32) q ∙ minus_zero_bits e in
      clash (good_parts m w g).not_minus_zero (eq-eqb w sign_bit z)

  -- good bits are below zero where the sign's bit is set
  good_below : sign_bit ≤ w → lt (of_bits binary32 w) (fin false 0 (pos 0)) ≡ true
  good_below h = below good_float.digits good_float.exponent (good_float.is ∙ rw (le-leb sign_bit w h))
    where
      below : (d : ℕ) (e : ℤ) → of_bits binary32 w ≡ fin true d e → lt (of_bits binary32 w) (fin false 0 (pos 0)) ≡ true
      below zero e q = good_not_minus_zero e q
      below (suc d) e q = rw q (minus_below (suc d) e (omega arith))

pub good_not_bad : (m : Measure) (w : ℕ) → good_word m w ≡ true → BadFloat m (of_bits binary32 w) → ⊥
good_not_bad m w g (not_a_number e) = clash (ap finite e) (ap finite (good_float m w g).is)
good_not_bad m w g (infinite s e) = clash (ap finite e) (ap finite (good_float m w g).is)
good_not_bad m w g (minus_zero e) = good_not_minus_zero m w g (pos 0) e
good_not_bad m w g (torque_below_zero e h) =
    let n = good_float m w g in
    let p : is_below_zero torque w ≡ false = rw e at (good_parts m w g).not_below in
    clash (rw (n.is, p) (plus_not_below n.digits n.exponent)) h

-- an angle's good word, under a measure that it is below zero for
bad_below : (m : Measure) (w : ℕ) → good_word angle w ≡ true → is_below_zero m w ≡ true → BadFloat m (of_bits binary32 w)
bad_below angle w g t = clash refl t
bad_below torque w g t = torque_below_zero refl (good_below angle w g (leb-true sign_bit w t))

pub bad_found : (m : Measure) (w : ℕ) → w < 2 ^ 32 → good_word m w ≡ false → BadFloat m (of_bits binary32 w)
bad_found m w bits g =
    by_test (eqb w sign_bit) (λ e. minus_zero (bits_minus_zero w (eqb-true w sign_bit e)))
    (λ e. by_order (w % sign_bit) infinity
    (λ h. by_test (is_below_zero m w)
    (λ t. bad_below m w (parts_good angle w (record { bits = bits; not_minus_zero = e; not_below = refl; finite = h })) t)
    (λ t. clash g (parts_good m w (record { bits = bits; not_minus_zero = e; not_below = t; finite = h }))))
    (λ h. by_order infinity (w % sign_bit) (λ l. not_a_number (bits_nan w l)) (λ l. infinite (leb sign_bit w) (bits_infinite w (omega arith)))))
