-- What the test of a byte's high bit tells, and what setting it gives.
--
--   bit_clear, bit_set   the byte is below 128 where the bit isn't set, and 128 or more where it is
--   set_seven            with the bit set, seven bits are 128 and they
use Prim.Native.Nat.{ℕ, ◌+◌, ◌≤◌, ◌<◌}
use mathlib.Core.Path.{◌≡◌, sym, ◌∙◌}
use mathlib.Core.Bool.{Bool, true, false, not}
use native.Mathlib.Omega.{arith}
use borrow.Author.Tests.{leb-true, leb-false, not-true, not-false}
use Rattle.bits.specs.Macros.{is_high_8_bit_set_lem, set_high_8_bit_lem}

pub bit_clear : {b : ℕ} {r : Bool} → r ≡ is_high_8_bit_set_lem b → not r ≡ true → b < 128
bit_clear {b} {r} e t = leb-false 128 b (sym e ∙ not-true r t)

pub bit_set : {b : ℕ} {r : Bool} → r ≡ is_high_8_bit_set_lem b → not r ≡ false → 128 ≤ b
bit_set {b} {r} e f = leb-true 128 b (sym e ∙ not-false r f)

pub set_seven : (b : ℕ) → b < 128 → set_high_8_bit_lem b ≡ 128 + b
set_seven b h = omega arith
