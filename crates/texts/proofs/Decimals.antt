-- The digits that `io::decimal` makes are those of `decimal`, and how many a number has.
--
--   DigitsOf v l                   l is the digits of v
--   decimal_small, decimal_large   the two equations of `decimal`
--   lays_decimal                   where the fewest digits that hold a number, at least one, are laid down, `decimal` of it is
--   decimal_within_lem             a number below 10 ^ k has at most k of them
--   three_digits_each              one below 128 ^ k at most 3 * k
use Prim.Native.Nat.{ℕ, zero, suc, ◌+◌, ◌-◌, ◌*◌, ◌/◌, ◌%◌, ◌^◌, ◌≤◌, ◌<◌}
use mathlib.Core.Path.{◌≡◌, refl, ap}
use mathlib.Core.List.{List, [], ◌∷◌, ◌++◌}
use native.Mathlib.Nat.{pow-succ'}
use native.Mathlib.Omega.{arith}
use borrow.Author.Tests.{lt-ltb, le-ltb}
use lib.ListN.{length, length-append}
use Rattle.io.specs.Digits.{last_digits, hex_digit_ascii, IsDigitCount}
use Rattle.words.proofs.Cases.{by_order}
use Rattle.texts.specs.Texts.{decimal, decimal_within, Lays}
use Rattle.texts.specs.declared.Text.{Text}

-- l is the digits of v
pub data DigitsOf : ℕ → List ℕ → Type 0 where
  one : {v : ℕ} → v < 10 → DigitsOf v ((48 + v) ∷ [])
  more : {v : ℕ} {l : List ℕ} → 10 ≤ v → DigitsOf (v / 10) l → DigitsOf v (l ++ (48 + v % 10) ∷ [])

unique : {v : ℕ} {l m : List ℕ} → DigitsOf v l → DigitsOf v m → l ≡ m
unique (one h) (one k) = refl
unique (one h) (more k q) = absurd (omega arith)
unique (more h p) (one k) = absurd (omega arith)
unique {v} (more h p) (more k q) = ap (λ (l : List ℕ). l ++ (48 + v % 10) ∷ []) (unique p q)

within : (n v : ℕ) → v ≤ n → DigitsOf v (decimal_within n v)
unfolding decimal_within
within zero v h = one {v = v} (omega arith)
within (suc n) v h =
    by_order v 10
    (λ b. rw (lt-ltb v 10 b, decimal_within) (one b))
    (λ b. rw (le-ltb v 10 b, decimal_within) (more b (within n (v / 10) (omega arith))))

spelled : (v : ℕ) → DigitsOf v (decimal v)
unfolding decimal
spelled v = within v v (omega arith)

pub decimal_small : (v : ℕ) → v < 10 → decimal v ≡ (48 + v) ∷ []
decimal_small v h = unique (spelled v) (one h)

pub decimal_large : (v : ℕ) → 10 ≤ v → decimal v ≡ decimal (v / 10) ++ (48 + v % 10) ∷ []
decimal_large v h = unique (spelled v) (more h (spelled (v / 10)))

digit : (d : ℕ) → d < 10 → hex_digit_ascii d ≡ 48 + d
digit d h = rw (lt-ltb d 10 h)

ten : (k : ℕ) → 10 ≤ 10 ^ suc k
ten zero = omega arith
ten (suc k) = omega (arith, ten k, pow-succ' 10 (suc k))

digits_spelled : (k v : ℕ) → IsDigitCount 10 1 v k → DigitsOf v (last_digits 10 k v)
digits_spelled zero v f = absurd (omega (arith, f.0))
digits_spelled (suc zero) v f = let h : v < 10 = omega (arith, f.1) in let e : v % 10 ≡ v = omega arith in rw (e, digit v h) (one h)
digits_spelled (suc (suc k)) v f =
    let i : suc (suc k) - 1 ≡ suc k = omega arith in
    let j : suc k - 1 ≡ k = omega arith in
    let least : 10 ^ suc k ≤ v = rw i at (f.2 (omega arith)) in
    let tenth : 10 ^ k ≤ v / 10 = omega (arith, least, pow-succ' 10 k) in
    let most : v / 10 < 10 ^ suc k = omega (arith, f.1, pow-succ' 10 (suc k)) in
    rw (digit (v % 10) (omega arith)) (more {v = v} (omega (arith, ten k, least)) (digits_spelled (suc k) (v / 10) (omega arith, most, λ h. rw j tenth)))

fewest : (k v : ℕ) → IsDigitCount 10 1 v k → last_digits 10 k v ≡ decimal v
fewest k v f = unique (digits_spelled k v f) (spelled v)

-- those digits, laid down
pub lays_decimal : (k v : ℕ) {t : List ℕ} {x y : Text} → IsDigitCount 10 1 v k → t ≡ last_digits 10 k v → Lays t x y → Lays (decimal v) x y
lays_decimal k v f e p = rw (← (fewest k v f), ← e) p

at_most : (k : ℕ) {v : ℕ} {l : List ℕ} → DigitsOf v l → v < 10 ^ suc k → length l ≤ suc k
at_most k (one h) b = omega arith
at_most zero (more h p) b = absurd (omega arith)
at_most (suc k) (more {v} {l} h p) b = rw (length-append l ((48 + v % 10) ∷ [])) (omega (arith, at_most k p (omega (arith, pow-succ' 10 (suc k)))))

pub decimal_within_lem : (k v : ℕ) → v < 10 ^ suc k → length (decimal v) ≤ suc k
decimal_within_lem k v h = at_most k (spelled v) h

-- three digits for seven bits: 128 < 1000
three_each : (k : ℕ) → 128 ^ k ≤ 10 ^ (3 * k)
three_each zero = omega arith
three_each (suc k) =
    let e : 3 * suc k ≡ suc (suc (suc (3 * k))) = omega arith in
    rw e (omega (arith, three_each k, pow-succ' 128 k, pow-succ' 10 (3 * k), pow-succ' 10 (suc (3 * k)), pow-succ' 10 (suc (suc (3 * k)))))

pub three_digits_each : (k v : ℕ) → v < 128 ^ suc k → length (decimal v) ≤ 3 * suc k
three_digits_each k v h =
    let e : 3 * suc k ≡ suc (suc (suc (3 * k))) = omega arith in
    rw e (decimal_within_lem (suc (suc (3 * k))) v (rw e at (lt_le h (three_each (suc k)))))
  where
    lt_le : {a b c : ℕ} → a < b → b ≤ c → a < c
    lt_le i j = omega arith
