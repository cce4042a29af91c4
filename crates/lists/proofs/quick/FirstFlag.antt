-- Where each byte of a number is 0 or 128, the zeros at its low end tell how many bytes stand before the first that is 128.
--
--   first_flag   an eighth of those zeros, rounded down, is how many such bytes there are: 8 where all are 0
use Prim.Native.Nat.{ℕ, zero, suc, ◌+◌, ◌*◌, ◌/◌, ◌%◌, ◌^◌, ◌≤◌, ◌<◌}
use mathlib.Core.Path.{◌≡◌, ap, ◌∙◌}
use mathlib.Core.List.{List, [], ◌∷◌}
use native.Mathlib.Nat.{pow-succ', mul_assoc}
use native.Mathlib.Omega.{arith}
use lib.Count.{count_trailing_zeros, trailing_le}
use lib.ListN.{length}
use Rattle.lists.specs.InnerWord.{based, little, spread, zeros, Flags, none, clear, flag}
use Rattle.lists.proofs.quick.Bytewise.{little_spread, length_spread}

odd_none : (k a : ℕ) → count_trailing_zeros (suc k) (2 * a + 1) ≡ 0
unfolding count_trailing_zeros
odd_none k a = let e : (2 * a + 1) % 2 ≡ 1 = omega arith in rw e

even_one : (k a : ℕ) → count_trailing_zeros (suc k) (2 * a) ≡ suc (count_trailing_zeros k a)
unfolding count_trailing_zeros
even_one k a =
    let e : (2 * a) % 2 ≡ 0 = omega arith in
    let f : (2 * a) / 2 ≡ a = omega arith in
    rw (e, f)

shifted : (j k a : ℕ) → count_trailing_zeros (j + k) (2 ^ j * a) ≡ j + count_trailing_zeros k a
shifted zero k a = let e : 1 * a ≡ a = omega arith in let f : 0 + k ≡ k = omega arith in rw (f, e) (omega arith)
shifted (suc j) k a =
    let e : 2 ^ suc j * a ≡ 2 * (2 ^ j * a) = ap (λ (n : ℕ). n * a) (pow-succ' 2 j) ∙ mul_assoc 2 (2 ^ j) a in
    let f : suc j + k ≡ suc (j + k) = omega arith in
    rw (f, e, even_one (j + k) (2 ^ j * a), shifted j k a) (omega arith)

first_bounds : (g : List ℕ) → Flags g
    → (8 * zeros g ≤ count_trailing_zeros (8 * length g) (little g)) × (count_trailing_zeros (8 * length g) (little g) < 8 * zeros g + 8)
unfolding zeros based
first_bounds [] none = (omega arith, omega (arith, trailing_le 0 0))
first_bounds (b ∷ g) (clear r) =
    let ih = first_bounds g r in
    let n : 8 * suc (length g) ≡ 8 + 8 * length g = omega arith in
    let x : 0 + 256 * little g ≡ 256 * little g = omega arith in
    let e : count_trailing_zeros (8 * suc (length g)) (0 + 256 * little g) ≡ 8 + count_trailing_zeros (8 * length g) (little g) =
    rw (n, x) (shifted 8 (8 * length g) (little g)) in
    (omega (arith, ih.0), omega (arith, ih.1))
first_bounds (b ∷ g) (flag r) =
    let n : 8 * suc (length g) ≡ 7 + suc (8 * length g) = omega arith in
    let x : 128 + 256 * little g ≡ 128 * (2 * little g + 1) = omega arith in
    let e : count_trailing_zeros (8 * suc (length g)) (128 + 256 * little g) ≡ 7 =
    rw (n, x) (shifted 7 (suc (8 * length g)) (2 * little g + 1) ∙ rw (odd_none (8 * length g) (little g))) in
    (omega arith, omega arith)

pub first_flag : {h : ℕ} → h < 2 ^ 64 → Flags (spread 8 h) → count_trailing_zeros 64 h / 8 ≡ zeros (spread 8 h)
first_flag {h} l r =
    let b = rw (length_spread 8 h, little_spread 8 h l) at (first_bounds (spread 8 h) r) in
    omega (arith, b.0, b.1)
