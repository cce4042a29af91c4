-- How words are spelled: `spread` and `little` undo each other, and so do `body` and `words`.
--
--   little_spread   a number of n bytes is the one that its n low bytes make
--   spread_little   n bytes at the front are the low bytes of the number that they make,
--   little_bound    which has no more than n bytes
--   length_body     a body has four bytes for each word
--   words_body      the words of a body are read from it, whatever stands behind
--   words_many      as many words are read as there are measures,
--   words_bits      each of 32 bits,
--   body_words      and the bytes are their body and what stands behind it
use Prim.Native.Nat.{ℕ, zero, suc, ◌+◌, ◌*◌, ◌/◌, ◌%◌, ◌^◌, ◌≤◌, ◌<◌}
use mathlib.Core.List.{List, [], ◌∷◌, ◌++◌}
use mathlib.Core.Path.{◌≡◌, refl, ap, sym, ◌∙◌}
use native.Mathlib.Nat.{pow-succ'}
use native.Mathlib.Omega.{arith}
use lib.ListN.{length, get_or, take, drop, take-append-drop, length-drop}
use lib.Seq.{drop-drop, get_or-drop}
use Rattle.slips.specs.Good.{Measure}
use Rattle.slips.specs.Slip.{spread, body, body_length, little, words}

pub little_spread : (n w : ℕ) → w < 256 ^ n → little (spread n w) ≡ w
unfolding little
little_spread zero w h = omega arith
little_spread (suc n) w h = rw (little_spread n (w / 256) (omega (arith, pow-succ' 256 n))) (omega arith)

pub spread_little : (n : ℕ) (l : List ℕ) → ((i : ℕ) → get_or l i 0 < 256) → n ≤ length l → spread n (little (take n l)) ≡ take n l
unfolding little
spread_little zero l b h = refl
spread_little (suc n) [] b h = absurd (omega arith)
spread_little (suc n) (x ∷ l) b h =
    let r = little (take n l) in
    let low : (x + 256 * r) % 256 ≡ x = omega (arith, b 0) in
    let high : (x + 256 * r) / 256 ≡ r = omega (arith, b 0) in
    rw (low, high, spread_little n l (λ i. b (suc i)) (omega arith))

pub little_bound : (n : ℕ) (l : List ℕ) → ((i : ℕ) → get_or l i 0 < 256) → little (take n l) < 256 ^ n
unfolding little
little_bound zero l b = omega arith
little_bound (suc n) [] b = omega (arith, pow-succ' 256 n, little_bound n [] b)
little_bound (suc n) (x ∷ l) b = omega (arith, pow-succ' 256 n, little_bound n l (λ i. b (suc i)), b 0)

pub length_body : (ws : List ℕ) → length (body ws) ≡ 4 * length ws
length_body [] = refl
length_body (w ∷ ws) = omega (arith, length_body ws)

pub words_body : (ms : List Measure) (ws rest : List ℕ) → length ws ≡ length ms → ((i : ℕ) → get_or ws i 0 < 2 ^ 32) → words ms (body ws ++ rest) ≡ ws
words_body [] [] rest e b = refl
words_body [] (w ∷ ws) rest e b = absurd (omega arith)
words_body (m ∷ ms) [] rest e b = absurd (omega arith)
words_body (m ∷ ms) (w ∷ ws) rest e b = rw (little_spread 4 w (b 0), words_body ms ws rest (omega arith) (λ i. b (suc i)))

pub words_many : (ms : List Measure) (l : List ℕ) → length (words ms l) ≡ length ms
words_many [] l = refl
words_many (m ∷ ms) l = ap suc (words_many ms (drop 4 l))

module _ where
  bytes_behind : (l : List ℕ) → ((i : ℕ) → get_or l i 0 < 256) → (i : ℕ) → get_or (drop 4 l) i 0 < 256
  bytes_behind l b i = rw (get_or-drop 4 l i 0) (b (4 + i))

  pub words_bits : (ms : List Measure) (l : List ℕ) → ((i : ℕ) → get_or l i 0 < 256) → (i : ℕ) → get_or (words ms l) i 0 < 2 ^ 32
  words_bits [] l b i = omega arith
  words_bits (m ∷ ms) l b zero = little_bound 4 l b
  words_bits (m ∷ ms) l b (suc i) = words_bits ms (drop 4 l) (bytes_behind l b) i

  pub body_words : (ms : List Measure) (l : List ℕ) → ((i : ℕ) → get_or l i 0 < 256) → body_length ms ≤ length l
      → l ≡ body (words ms l) ++ drop (body_length ms) l
  body_words [] l b h = refl
  body_words (m ∷ ms) l b h =
      let n : 4 + body_length ms ≡ body_length (m ∷ ms) = omega arith in
      let e = drop-drop (body_length ms) 4 l ∙ ap (λ (k : ℕ). drop k l) n in
      let rest = body_words ms (drop 4 l) (bytes_behind l b) (omega (arith, length-drop 4 l)) in
      sym (take-append-drop 4 l)
      ∙ ap (λ (x : List ℕ). x ++ drop 4 l) (sym (spread_little 4 l b (omega arith)))
      ∙ ap (λ (x : List ℕ). spread 4 (little (take 4 l)) ++ x) (rest ∙ ap (λ (x : List ℕ). body (words ms (drop 4 l)) ++ x) e)
