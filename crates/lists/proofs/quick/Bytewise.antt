-- What is done to a number byte by byte.
--
--   repeats n c                    c, n times
--   length_each                    what f makes of each element is as many
--   below_each                     what f makes of each element is below k, where f is
--   below_bytes                    the first n of some bytes are below 256
--   below_spread, length_spread    so are the bytes of a number, and there are as many as asked for
--   little_spread, spread_little   a number from its bytes, and bytes from their number
--   spread_each                    the bytes of the number that f makes, byte by byte, are what f makes of each byte
--   masked                         a number anded with the same digit at n places is each of its first n digits anded with it
--   low_bytes_lem, top_bytes       so the two masks of a word leave the seven bits, and the high bit, of each byte
--   two_tops                       and that of two bytes the high bits of the first two
--   marks_and_tops                 the high bits turned over are what the high bits lack of 128 at each byte
use Prim.Native.Nat.{ℕ, zero, suc, ◌+◌, ◌*◌, ◌/◌, ◌%◌, ◌^◌, ◌<◌}
use mathlib.Core.Path.{◌≡◌, refl, ap, ◌∙◌}
use mathlib.Core.List.{List, [], ◌∷◌}
use native.Mathlib.Nat.{mul_comm, pow-succ'}
use native.Mathlib.Omega.{arith}
use lib.Bits.{bit_and, and_block, and_mask, and_high, and_zero_l, and_zero_r}
use lib.ListN.{length, take}
use Rattle.groups.specs.Group.{Bytes}
use Rattle.lists.specs.InnerWord.{based, little, spread, each, low, top, mark, Below}

unfoldable pub repeats : ℕ → ℕ → List ℕ
repeats zero c = []
repeats (suc n) c = c ∷ repeats n c

pub below_each : (f : ℕ → ℕ) (k : ℕ) → ((b : ℕ) → f b < k) → (g : List ℕ) → Below k (each f g)
unfolding each
below_each f k h [] = tt
below_each f k h (b ∷ g) = (h b, below_each f k h g)

pub below_bytes : (n : ℕ) (l : List ℕ) → Bytes l → Below 256 (take n l)
below_bytes zero l h = tt
below_bytes (suc n) [] h = tt
below_bytes (suc n) (b ∷ l) h = (h 0, below_bytes n l (λ i. h (suc i)))

pub below_spread : (n w : ℕ) → Below 256 (spread n w)
unfolding spread
below_spread zero w = tt
below_spread (suc n) w = (omega arith, below_spread n (w / 256))

pub length_spread : (n w : ℕ) → length (spread n w) ≡ n
unfolding spread
length_spread zero w = refl
length_spread (suc n) w = ap suc (length_spread n (w / 256))

pub little_spread : (n w : ℕ) → w < 256 ^ n → little (spread n w) ≡ w
unfolding based spread
little_spread zero w h = omega arith
little_spread (suc n) w h =
    let l : w / 256 < 256 ^ n = omega (arith, pow-succ' 256 n) in
    rw (little_spread n (w / 256) l) (omega arith)

pub spread_little : (g : List ℕ) → Below 256 g → spread (length g) (little g) ≡ g
unfolding based spread
spread_little [] h = refl
spread_little (b ∷ g) h =
    let l = h.0 in
    let e : (b + 256 * little g) % 256 ≡ b = omega arith in
    let f : (b + 256 * little g) / 256 ≡ little g = omega arith in
    rw (e, f, spread_little g h.1)

pub length_each : (f : ℕ → ℕ) (g : List ℕ) → length (each f g) ≡ length g
unfolding each
length_each f [] = refl
length_each f (b ∷ g) = ap suc (length_each f g)

pub spread_each : (f : ℕ → ℕ) (n w : ℕ) {m : ℕ} → Below 256 (each f (spread n w)) → m ≡ little (each f (spread n w))
    → spread n m ≡ each f (spread n w)
spread_each f n w h e =
    let l : length (each f (spread n w)) ≡ n = length_each f (spread n w) ∙ length_spread n w in
    rw e (rw l at (spread_little (each f (spread n w)) h))

pub masked : (k c : ℕ) (f : ℕ → ℕ) → c < 2 ^ k → ((b : ℕ) → b < 2 ^ k → bit_and b c ≡ f b) → (n : ℕ) (l : List ℕ) → Below (2 ^ k) l
    → bit_and (based (2 ^ k) l) (based (2 ^ k) (repeats n c)) ≡ based (2 ^ k) (each f (take n l))
unfolding based repeats each
masked k c f s h zero l p = and_zero_r (based (2 ^ k) l)
masked k c f s h (suc n) [] p = and_zero_l (c + 2 ^ k * based (2 ^ k) (repeats n c))
masked k c f s h (suc n) (b ∷ l) p =
    let x = based (2 ^ k) l in
    let y = based (2 ^ k) (repeats n c) in
    let e : b + 2 ^ k * x ≡ x * 2 ^ k + b = omega (arith, mul_comm (2 ^ k) x) in
    let g : c + 2 ^ k * y ≡ y * 2 ^ k + c = omega (arith, mul_comm (2 ^ k) y) in
    rw (e, g, and_block k x y b c p.0 s, masked k c f s h n l p.1, h b p.0)
    (omega (arith, mul_comm (2 ^ k) (based (2 ^ k) (each f (take n l)))))

top_bit : (b : ℕ) → b < 256 → bit_and b 128 ≡ top b
top_bit b h = and_high b 1 7 ∙ omega arith

module _ {w : ℕ} (h : w < 2 ^ 64) where
  masked_word : (c : ℕ) (f : ℕ → ℕ) → c < 256 → ((b : ℕ) → b < 256 → bit_and b c ≡ f b) → (n : ℕ)
      → bit_and w (little (repeats n c)) ≡ little (each f (take n (spread 8 w)))
  masked_word c f s q n = rw (little_spread 8 w h) at (masked 8 c f s q n (spread 8 w) (below_spread 8 w))

  pub low_bytes_lem : bit_and w 9187201950435737471 ≡ little (each low (spread 8 w))
  unfolding based repeats spread
  low_bytes_lem = masked_word 127 low (omega arith) (λ b l. and_mask b 7) 8

  pub top_bytes : bit_and w 9259542123273814144 ≡ little (each top (spread 8 w))
  unfolding based repeats spread
  top_bytes = masked_word 128 top (omega arith) top_bit 8

  pub two_tops : bit_and w 32896 ≡ top (w % 256) + 256 * top (w / 256 % 256)
  unfolding based repeats spread each
  two_tops = masked_word 128 top (omega arith) top_bit 2 ∙ omega arith

marks_with_tops : (n w : ℕ) → little (each mark (spread n w)) + little (each top (spread n w)) ≡ little (repeats n 128)
unfolding based repeats each spread
marks_with_tops zero w = refl
marks_with_tops (suc n) w = omega (arith, marks_with_tops n (w / 256))

pub marks_and_tops : (w : ℕ) → little (each mark (spread 8 w)) + little (each top (spread 8 w)) ≡ 9259542123273814144
unfolding based repeats
marks_and_tops w = marks_with_tops 8 w
