-- Digits put together by pairs, all pairs at once: in a number whose digits in a base are small, each pair becomes one digit of the base's square.
--
--   twos d g                        the pairs of neighbours in g, each as one number in the base d
--   seconds g                       every second element of g
--   pair_up e b mask w              a step of `join`: the second digits in the base b, found by the mask, taken off e times
--   by_pairs, by_fours, by_eights   its three steps; the last has one pair, and so no mask
--   paired_up                       where the digits are small enough, a step leaves the pairs, for any base and any smaller one
--   joined_digits                   the three steps, from eight bytes below 128 to the number that they are the digits of
use Prim.Native.Nat.{ℕ, suc, ◌+◌, ◌-◌, ◌*◌, ◌/◌, ◌%◌, ◌^◌, ◌≤◌, ◌<◌}
use mathlib.Core.Path.{◌≡◌, refl, ap, sym, ◌∙◌}
use mathlib.Core.List.{List, [], ◌∷◌}
use native.Mathlib.Nat.{mul-add, add-mul, mul_assoc, mul_left_comm, mul-suc, mul-le-mul_left, le-mul_of_pos_right}
use native.Mathlib.Nat.{mod-eq_of_lt, add-mul-mod_self_left, add-mul-div_left, div-eq_of_lt}
use native.Mathlib.Omega.{arith}
use lib.Bits.{bit_and, and_mask}
use lib.ListN.{length}
use lib.Pow.{pow-add}
use lib.Seq.{take_all}
use Rattle.groups.specs.Group.{digits}
use Rattle.lists.specs.InnerWord.{based, spread, each, Below}
use Rattle.lists.proofs.quick.Bytewise.{repeats, masked, little_spread}

twos : ℕ → List ℕ → List ℕ
twos d [] = []
twos d (a ∷ []) = a ∷ []
twos d (a ∷ b ∷ g) = (a + d * b) ∷ twos d g

seconds : List ℕ → List ℕ
seconds [] = []
seconds (a ∷ []) = []
seconds (a ∷ b ∷ g) = b ∷ seconds g

-- a number in the base b, which is d and e, by the pairs in the base d and the second digits
twos_and_seconds : {b q : ℕ} (d e : ℕ) → b ≡ d + e → q ≡ b * b → (g : List ℕ) → based b g ≡ based q (twos d g) + e * based q (seconds g)
unfolding based twos seconds
twos_and_seconds d e s p [] = omega arith
twos_and_seconds d e s p (a ∷ []) = omega arith
twos_and_seconds {b} {q} d e s p (a ∷ x ∷ g) =
    let z = based b g in
    let t = based q (twos d g) in
    let o = based q (seconds g) in
    let whole : q * z ≡ b * (b * z) = ap (λ (n : ℕ). n * z) p ∙ mul_assoc b b z in
    let rest : q * z ≡ q * t + q * (e * o) = ap (λ (n : ℕ). q * n) (twos_and_seconds d e s p g) ∙ mul-add q t (e * o) in
    let second : b * x ≡ d * x + e * x = ap (λ (n : ℕ). n * x) s ∙ add-mul d e x in
    omega (arith, mul-add b x (b * z), mul-add e x (q * o), mul_left_comm q e o)

twos_same : {q : ℕ} (d : ℕ) → q ≡ d * d → (g : List ℕ) → based d g ≡ based q (twos d g)
twos_same d p g = omega (arith, twos_and_seconds d 0 (omega arith) p g)

below_up : {d b : ℕ} → d ≤ b → (g : List ℕ) → Below d g → Below b g
below_up l [] h = tt
below_up l (a ∷ g) h = let s = h.0 in (omega arith, below_up l g h.1)

below_twos : {q : ℕ} (d : ℕ) → q ≡ d * d → (g : List ℕ) → Below d g → Below q (twos d g)
unfolding twos
below_twos d p [] h = tt
below_twos d p (a ∷ []) h = let l = h.0 in (omega (arith, le-mul_of_pos_right {m = d} d (omega arith)), tt)
below_twos d p (a ∷ b ∷ g) h =
    let l = h.0 in
    let k : suc b ≤ d = omega (arith, h.1.0) in
    (omega (arith, mul-le-mul_left d k, mul-suc d b), below_twos d p g h.1.1)

-- the second digits are what remains of the pairs that begin with them
seconds_remain : {b : ℕ} (d c : ℕ) → b ≡ d * c → (a : ℕ) (t : List ℕ) → Below d t → each (λ x. x % d) (twos b t) ≡ seconds (a ∷ t)
unfolding each twos seconds
seconds_remain d c p a [] h = refl
seconds_remain d c p a (x ∷ []) h = ap (λ (n : ℕ). n ∷ []) (mod-eq_of_lt h.0)
seconds_remain {b} d c p a (x ∷ y ∷ t) h =
    let e : b * y ≡ d * (c * y) = ap (λ (n : ℕ). n * y) p ∙ mul_assoc d c y in
    let f : (x + b * y) % d ≡ x = ap (λ (n : ℕ). (x + n) % d) e ∙ add-mul-mod_self_left x d (c * y) ∙ mod-eq_of_lt h.0 in
    rw (f, seconds_remain d c p y t h.1.1)

abbrev pub pair_up : ℕ → ℕ → ℕ → ℕ → ℕ
pair_up e b mask w = w - e * bit_and (w / b) mask

module _ (k m c e : ℕ) (p : 2 ^ k ≡ 2 ^ m * c) (s : 2 ^ k ≡ 2 ^ m + e) (a : ℕ) (t : List ℕ) (h : Below (2 ^ m) (a ∷ t)) (n : ℕ)
    (all : length (twos (2 ^ k) t) ≤ n) where
  second_digits : bit_and (based (2 ^ k) (a ∷ t) / 2 ^ k) (based (2 ^ (k + k)) (repeats n (2 ^ m - 1))) ≡ based (2 ^ (k + k)) (seconds (a ∷ t))
  unfolding based
  second_digits =
      let x = based (2 ^ k) t in
      let l : a < 2 ^ k = omega (arith, h.0) in
      let q : 2 ^ (k + k) ≡ 2 ^ k * 2 ^ k = pow-add 2 k k in
      let d : (a + 2 ^ k * x) / 2 ^ k ≡ x = add-mul-div_left a x {y = 2 ^ k} (omega arith) ∙ rw (div-eq_of_lt l) (omega arith) in
      let u : Below (2 ^ (k + k)) (twos (2 ^ k) t) = below_twos (2 ^ k) q t (below_up (omega arith) t h.1) in
      let v : 2 ^ m - 1 < 2 ^ (k + k) = omega (arith, le-mul_of_pos_right {m = 2 ^ k} (2 ^ k) (omega arith)) in
      rw (
        d,
        twos_same (2 ^ k) q t,
        masked (k + k) (2 ^ m - 1) (λ b. b % 2 ^ m) v (λ b r. and_mask b m) n (twos (2 ^ k) t) u,
        take_all n (twos (2 ^ k) t) all,
        seconds_remain (2 ^ m) c p a t h.1,
      )

  paired_up : pair_up e (2 ^ k) (based (2 ^ (k + k)) (repeats n (2 ^ m - 1))) (based (2 ^ k) (a ∷ t)) ≡ based (2 ^ (k + k)) (twos (2 ^ m) (a ∷ t))
  paired_up = rw second_digits (omega (arith, twos_and_seconds (2 ^ m) e s (pow-add 2 k k) (a ∷ t)))

-- the seven bits of a byte below 128 are all of it
digits_based : (g : List ℕ) → Below 128 g → digits g ≡ based 128 g
unfolding digits based
digits_based [] h = refl
digits_based (b ∷ g) h = let l = h.0 in let e = digits_based g h.1 in omega arith

abbrev pub by_pairs : ℕ → ℕ
by_pairs w = pair_up 128 256 35747867511423103 w

abbrev pub by_fours : ℕ → ℕ
by_fours x = pair_up 49152 65536 70364449226751 x

abbrev pub by_eights : ℕ → ℕ
by_eights y = y - 4026531840 * (y / 4294967296)

last_pair : (a b : ℕ) → a < 268435456 → by_eights (based 4294967296 (a ∷ b ∷ [])) ≡ based 268435456 (a ∷ b ∷ [])
unfolding based
last_pair a b h = omega arith

pub joined_digits : {w : ℕ} → w < 2 ^ 64 → Below 128 (spread 8 w) → by_eights (by_fours (by_pairs w)) ≡ digits (spread 8 w)
unfolding spread twos based repeats
joined_digits {w} l h =
    let g = spread 8 w in
    let h2 : Below 16384 (twos 128 g) = below_twos 128 refl g h in
    let h4 : Below 268435456 (twos 16384 (twos 128 g)) = below_twos 16384 refl (twos 128 g) h2 in
    let e2 : by_pairs (based 256 g) ≡ based 65536 (twos 128 g) = paired_up 8 7 2 128 refl refl (w % 256) (spread 7 (w / 256)) h 4 (omega arith) in
    let e4 : by_fours (based 65536 (twos 128 g)) ≡ based 4294967296 (twos 16384 (twos 128 g)) =
    paired_up 16 14 4 49152 refl refl (w % 256 + 128 * (w / 256 % 256)) (twos 128 (spread 6 (w / 256 / 256))) h2 2 (omega arith) in
    ap (λ (x : ℕ). by_eights (by_fours (by_pairs x))) (sym (little_spread 8 w l)) ∙ ap (λ (x : ℕ). by_eights (by_fours x)) e2 ∙ ap by_eights e4
    ∙ last_pair _ _ h4.0 ∙ sym (digits_based g h ∙ twos_same 128 refl g ∙ twos_same 16384 refl (twos 128 g))
