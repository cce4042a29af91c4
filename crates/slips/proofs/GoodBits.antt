-- Good words as bits: what the test says, how the code tests it, and that such bits come back as they went.
--
--   GoodParts m w                             32 bits, not minus zero, not below zero, and below an infinity's without the sign
--   good_parts, parts_good                    the test holds exactly where these do
--   minus_zero_bad, angle_good, torque_good   the tests of an angle and of a torque, as the code makes them
--   infinite_number                           bits up to an infinity's are no not-a-number's; `good_number`: good bits are none,
--   good_float                                so their float is one,
--   good_back                                 and they come back as they went
--   itself_number                             what doesn't differ from itself is a number
--   nan_bits_of                               the bits of a not-a-number are those that stand for every one
use Prim.Native.Nat.{ℕ, ◌%◌, ◌≤◌, ◌<◌}
use mathlib.Core.Bool.{true, false, not}
use mathlib.Core.Path.{◌≡◌, refl, sym, subst}
use native.Mathlib.Omega.{arith}
use borrow.Author.Tests.{ltb-true, lt-ltb, le-ltb, lt-leb, le-leb, eq-eqb, ne_eqb, not-true}
use lib.Dec.{T, ltb, eqb}
use lib.Ieee.{Float, nan, inf, fin, binary32, of_bits, to_bits, nan_bits, is_nan, ne, eq}
use lib.Ieee.Bits.{to_bits-of_bits, nan_bits_is, nan_bits_above}
use Rattle.std.specs.Float.{NotNan}
use Rattle.words.proofs.Cases.{by_order, both_true, both_false}
use Rattle.slips.specs.Good.{Measure, torque, angle, sign_bit, infinity, is_below_zero, good_word}

pub record GoodParts (m : Measure) (w : ℕ) : Type 0 where
  pub bits : w < 4294967296
  pub not_minus_zero : eqb w sign_bit ≡ false
  pub not_below : is_below_zero m w ≡ false
  pub finite : w % sign_bit < infinity

module _ (m : Measure) (w : ℕ) where
  pub good_parts : good_word m w ≡ true → GoodParts m w
  unfolding good_word
  good_parts e =
      let a = both_true _ _ e in
      let b = both_true _ _ a.1 in
      let c = both_true _ _ b.1 in
      record {
        bits = ltb-true w 4294967296 a.0;
        not_minus_zero = not-true (eqb w sign_bit) b.0;
        not_below = not-true (is_below_zero m w) c.0;
        finite = ltb-true (w % sign_bit) infinity c.1;
      }

  pub parts_good : GoodParts m w → good_word m w ≡ true
  unfolding good_word
  parts_good p = rw (lt-ltb w 4294967296 p.bits, p.not_minus_zero, p.not_below, lt-ltb (w % sign_bit) infinity p.finite)

module _ (w : ℕ) (bits : w < 4294967296) where
  pub minus_zero_bad : w ≡ sign_bit → false ≡ good_word angle w
  unfolding good_word
  minus_zero_bad e = rw (lt-ltb w 4294967296 bits, eq-eqb w sign_bit e)

  pub angle_good : (w ≡ sign_bit → ⊥) → ltb (w % sign_bit) infinity ≡ good_word angle w
  unfolding good_word
  angle_good f = rw (lt-ltb w 4294967296 bits, ne_eqb w sign_bit f)

  pub torque_good : ltb w infinity ≡ good_word torque w
  unfolding good_word
  torque_good =
      by_order w sign_bit
      (λ h. let e : w % sign_bit ≡ w = omega arith in rw (lt-ltb w 4294967296 bits, ne_eqb w sign_bit (λ i. omega arith), lt-leb sign_bit w h, e))
      (λ h. rw (lt-ltb w 4294967296 bits, le-leb sign_bit w h, le-ltb w infinity (omega arith)) (sym (both_false (not (eqb w sign_bit)))))

pub infinite_number : (w : ℕ) → w % sign_bit ≤ infinity → T (not (nan_bits binary32 w))
infinite_number w h = rw (nan_bits_above binary32 w) (rw (le-ltb infinity (w % sign_bit) h) tt)

module _ (m : Measure) (w : ℕ) (g : good_word m w ≡ true) where
  pub good_number : T (not (nan_bits binary32 w))
  good_number = infinite_number w (omega (arith, (good_parts m w g).finite))

  pub good_float : NotNan (of_bits binary32 w)
  good_float = rw (nan_bits_is binary32 w) at good_number

  pub good_back : to_bits binary32 (of_bits binary32 w) ≡ w
  good_back = to_bits-of_bits binary32 w (good_parts m w g).bits good_float

pub itself_number : (x : Float) → ne x x ≡ false → T (not (is_nan x))
unfolding ne eq is_nan
itself_number nan h = subst T h tt
itself_number (inf s) h = tt
itself_number (fin s m e) h = tt

pub nan_bits_of : (x : Float) → is_nan x ≡ true → 2143289344 ≡ to_bits binary32 x
unfolding is_nan to_bits
nan_bits_of nan h = refl
nan_bits_of (inf s) h = cc
nan_bits_of (fin s m e) h = cc
