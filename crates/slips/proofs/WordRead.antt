-- A word's four bytes, lowest first, by the library and by the definitions.
--
--   word_little   the number that the library makes of four bytes
--   word_spread   and the bytes that it makes of a number
use Prim.Native.Nat.{ℕ, ◌/◌, ◌%◌, ◌^◌, ◌≤◌}
use mathlib.Core.List.{List, [], ◌∷◌}
use mathlib.Core.Path.{◌≡◌}
use native.Mathlib.Omega.{arith}
use lib.ListN.{length, take}
use Rattle.std.specs.Int.{w32, from_le_bytes, to_le_bytes}
use Rattle.slips.specs.Slip.{little, spread}

pub word_little : (l : List ℕ) → 4 ≤ length l → from_le_bytes w32 (take 4 l) ≡ little (take 4 l)
unfolding little
word_little [] h = absurd (omega arith)
word_little (a ∷ []) h = absurd (omega arith)
word_little (a ∷ b ∷ []) h = absurd (omega arith)
word_little (a ∷ b ∷ c ∷ []) h = absurd (omega arith)
word_little (a ∷ b ∷ c ∷ d ∷ l) h = omega arith

pub word_spread : (w : ℕ) → to_le_bytes w32 w ≡ spread 4 w
word_spread w =
    let c : w / 256 ^ 2 % 256 ≡ w / 256 / 256 % 256 = omega arith in
    let d : w / 256 ^ 3 % 256 ≡ w / 256 / 256 / 256 % 256 = omega arith in
    cc
