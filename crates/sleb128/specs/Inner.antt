-- What the functions inside the crate ask and promise.
--
--   saying b up v                      what bits that are v say at the sign b: v, or below zero its complement, where all of them together are up
--   closing b low weight high bits p   the answer of a group whose high bytes, one at least, say low and whose last byte, at the place p, says bits,
--                                      of the sign b
--   Closes low weight high bits        such a group, of at most ten bytes
use Rattle.std.specs.Prelude.{ℕ, ◌+◌, ◌-◌, ◌*◌, ◌^◌, ◌<◌, Bool, true, false, ◌≡◌, ltb, ℤ}
use Rattle.words.specs.Answer.{pick, both, Answer, gives, refused, by_at}
use Rattle.sleb128.specs.Signed.{signed}

abbrev pub saying : Bool → ℕ → ℕ → ℕ
saying false up v = v
saying true up v = up - v

unfoldable pub closing : Bool → ℕ → ℕ → ℕ → ℕ → ℕ → Answer (ℤ × ℕ)
closing b low weight high bits p =
    pick (both (ltb 8 high) (ltb 0 bits)) (refused (by_at 2 p))
    (pick (ltb ((low + weight * bits) * 2) weight) (refused (by_at 3 p))
    (gives (signed b (low + weight * bits), high + 1)))

pub record Closes (low weight high bits : ℕ) : Type 0 where
  pub under : low < weight
  pub weighs : weight ≡ 128 ^ high
  pub few : high < 10
  pub small : bits < 64
