-- The signed width: its rules are those of spelling, at either sign.
--
--   sound                   only bytes below 128 are allowed at the greatest length, which is above 0
--   allowed                 a last byte is allowed there exactly where it says 0
--   one_too_many            a last byte is one too many exactly where it and the one before it say less than 64
--   spells                  the width's rules are those of spelling
--   one_above, one_below    the value of one byte: itself below 64, and from there on -m-1 for its complement m
--   pow_seven, half_seven   2 to the 7k is 128 to the k, and half of 2 to the 7(k + 1) is 64 times 128 to the k
use Prim.Native.Nat.{ℕ, zero, suc, ◌+◌, ◌-◌, ◌*◌, ◌%◌, ◌^◌, ◌≤◌, ◌<◌}
use mathlib.Core.Path.{◌≡◌, refl, ap, sym, ◌∙◌}
use mathlib.Core.List.{[], ◌∷◌}
use mathlib.Core.Bool.{Bool, true, false}
use native.Mathlib.Nat.{mul-suc, mul_comm, pow-suc}
use native.Mathlib.Omega.{arith}
use borrow.Author.Tests.{lt-ltb, le-ltb, le-leb, lt-leb, eq-eqb, ne_eqb, ltb-false}
use lib.Dec.{leb, ltb, eqb}
use lib.IntN.{pos, negsuc}
use lib.Pow.{pow-add}
use Rattle.words.proofs.Cases.{by_order}
use Rattle.groups.specs.Group.{digits}
use Rattle.groups.specs.Form.{say}
use Rattle.groups.proofs.FromWalk.{Sound}
use Rattle.groups.proofs.Exact.{Spells}
use Rattle.sleb128.specs.Signed.{twos, i64}

pub sound : Sound i64
sound = record { some = omega arith; low = λ b h. rw (ne_eqb b 0 (λ e. omega arith), ne_eqb b 127 (λ e. omega arith)) }

-- at either sign, the last byte allowed at the greatest length says 0
pub allowed : (s : Bool) (b : ℕ) → b < 128 → say s b < 64 → i64.allowed b ≡ leb (say s b) 0
allowed false b h l =
    by_order b 1 (λ z. rw (eq-eqb b 0 (omega arith), le-leb b 0 (omega arith)))
    (λ z. rw (ne_eqb b 0 (λ e. omega arith), ne_eqb b 127 (λ e. omega arith), lt-leb b 0 z))
allowed true b h l =
    by_order b 127
    (λ z. rw (ne_eqb b 0 (λ e. omega arith), ne_eqb b 127 (λ e. omega arith), lt-leb (127 - b) 0 (omega arith)))
    (λ z. rw (ne_eqb b 0 (λ e. omega arith), eq-eqb b 127 (omega arith), le-leb (127 - b) 0 (omega arith)))

-- what the rule "one too many" comes to at either sign: one byte would do for the last two
pub one_too_many : (s : Bool) (before b : ℕ) → b < 128 → say s b < 64 → i64.extra before b ≡ ltb (say s (before % 128) + 128 * say s b) 64
one_too_many false before b h l =
    let p = before % 128 in
    let other : eqb b 127 ≡ false = ne_eqb b 127 (λ e. omega arith) in
    by_order b 1
    (λ z.
    by_order p 64 (λ q. rw (eq-eqb b 0 (omega arith), lt-ltb p 64 q, lt-ltb (p + 128 * b) 64 (omega arith)))
    (λ q. rw (eq-eqb b 0 (omega arith), le-ltb p 64 q, other, le-ltb (p + 128 * b) 64 (omega arith))))
    (λ z. rw (ne_eqb b 0 (λ e. omega arith), other, le-ltb (p + 128 * b) 64 (omega arith)))
one_too_many true before b h l =
    let p = before % 128 in
    let other : eqb b 0 ≡ false = ne_eqb b 0 (λ e. omega arith) in
    by_order b 127
    (λ z. rw (other, ne_eqb b 127 (λ e. omega arith), le-ltb (127 - p + 128 * (127 - b)) 64 (omega arith)))
    (λ z.
    by_order p 64 (λ q. rw (other, eq-eqb b 127 (omega arith), lt-leb 64 p q, le-ltb (127 - p + 128 * (127 - b)) 64 (omega arith)))
    (λ q. rw (other, eq-eqb b 127 (omega arith), le-leb 64 p q, lt-ltb (127 - p + 128 * (127 - b)) 64 (omega arith))))

pub spells : (s : Bool) → Spells i64 s 64 0
spells s =
    record {
      sound = sound;
      some = omega arith;
      low = omega arith;
      under = omega arith;
      allowed = allowed s;
      needed = λ before b h l.
          (λ e. ltb-false _ 64 (sym (one_too_many s before b h l) ∙ e), λ e. one_too_many s before b h l ∙ le-ltb _ 64 e);
    }

-- a byte alone
one_digits : (b : ℕ) → b < 128 → digits (b ∷ []) ≡ b
unfolding digits
one_digits b h = omega arith

pub one_above : (b : ℕ) → b < 64 → i64.value (b ∷ []) ≡ pos b
unfolding twos
one_above b h = rw (one_digits b (omega arith), lt-ltb b 64 h)

pub one_below : (b : ℕ) → 64 ≤ b → b < 128 → i64.value (b ∷ []) ≡ negsuc (127 - b)
unfolding twos
one_below b h l = rw (one_digits b l, le-ltb b 64 h, lt-ltb b 128 l) (ap negsuc (omega arith))

-- seven bits a byte
pub pow_seven : (k : ℕ) → 2 ^ (7 * k) ≡ 128 ^ k
pow_seven zero = refl
pow_seven (suc k) = rw (mul-suc 7 k, pow-add 2 (7 * k) 7, pow_seven k, pow-suc 128 k)

pub half_seven : (k : ℕ) → 2 ^ (7 * (k + 1) - 1) ≡ 64 * 128 ^ k
half_seven k =
    let e : 7 * (k + 1) - 1 ≡ 7 * k + 6 = omega arith in
    rw (e, pow-add 2 (7 * k) 6, pow_seven k) (mul_comm (128 ^ k) 64)
