-- What `closing` answers of a group, by its two tests.
--
--   closing_large    where the first holds: refusal 2
--   closing_many     where it fails, and twice the magnitude is below the weight: refusal 3
--   closing_number   where it fails, and twice the magnitude is at least the weight: the number
--   tenth_zero       where it fails, a last byte behind nine others says 0,
--   closing_fits     and the magnitude is below 2 to the 63
use Prim.Native.Nat.{ℕ, ◌+◌, ◌*◌, ◌^◌, ◌≤◌, ◌<◌}
use mathlib.Core.Path.{◌≡◌}
use mathlib.Core.Bool.{Bool, true, false}
use native.Mathlib.Omega.{arith}
use borrow.Author.Tests.{lt-ltb, le-ltb, ltb-false}
use lib.Dec.{ltb}
use Rattle.words.specs.Answer.{both, gives, refused, by_at}
use Rattle.groups.proofs.Run.{below_limit}
use Rattle.sleb128.specs.Signed.{signed}
use Rattle.sleb128.specs.Inner.{closing, Closes}

module _ (b : Bool) (low weight high bits p : ℕ) where
  pub closing_large : both (ltb 8 high) (ltb 0 bits) ≡ true → closing b low weight high bits p ≡ refused (by_at 2 p)
  unfolding closing
  closing_large e = rw e

  module _ (e : both (ltb 8 high) (ltb 0 bits) ≡ false) where
    pub closing_many : (low + weight * bits) * 2 < weight → closing b low weight high bits p ≡ refused (by_at 3 p)
    unfolding closing
    closing_many h = rw (e, lt-ltb ((low + weight * bits) * 2) weight h)

    pub closing_number : weight ≤ (low + weight * bits) * 2 → closing b low weight high bits p ≡ gives (signed b (low + weight * bits), high + 1)
    unfolding closing
    closing_number h = rw (e, le-ltb ((low + weight * bits) * 2) weight h)

module _ (high bits : ℕ) (e : both (ltb 8 high) (ltb 0 bits) ≡ false) where
  pub tenth_zero : 8 < high → bits ≤ 0
  tenth_zero h = ltb-false 0 bits (rw (lt-ltb 8 high h) at e)

  pub closing_fits : {low weight : ℕ} → Closes low weight high bits → low + weight * bits < 2 ^ 63
  closing_fits k =
      omega (arith, below_limit k.under k.weighs (omega (arith, k.small)) 9 0 (omega (arith, k.few)) (λ q. tenth_zero (omega arith)))
