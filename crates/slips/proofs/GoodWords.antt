-- Good words, one by one.
--
--   good_both        good words are in order, and the test of each holds
--   first_good       the first of good words is good,
--   others_good      and so are the others
--   EachGood ms ws   there is a word for each measure, and each is good; `each_good`: so it is where the words are good
--   each_many        there are as many as measures,
--   each_bits        each of 32 bits
use Prim.Native.Nat.{ℕ, zero, suc, ◌^◌, ◌<◌}
use mathlib.Core.Bool.{true, not}
use mathlib.Core.List.{List, [], ◌∷◌}
use mathlib.Core.Path.{◌≡◌, refl, ap}
use native.Mathlib.Omega.{arith}
use lib.Ieee.{binary32, of_bits, lt}
use lib.ListN.{length, get_or}
use Rattle.words.proofs.Cases.{both_true, clash}
use Rattle.slips.specs.Good.{Measure, good_word, good_words, is_in_order, good}
use Rattle.slips.proofs.GoodBits.{good_parts}

pub good_both : (ms : List Measure) (ws : List ℕ) → good ms ws ≡ true → (is_in_order ws ≡ true) × (good_words ms ws ≡ true)
unfolding good
good_both ms ws e = both_true (is_in_order ws) (good_words ms ws) e

order_behind : (w : ℕ) (ws : List ℕ) → is_in_order (w ∷ ws) ≡ true → is_in_order ws ≡ true
unfolding is_in_order
order_behind w [] e = refl
order_behind w (v ∷ ws) e = (both_true (is_in_order (v ∷ ws)) (not (lt (of_bits binary32 v) (of_bits binary32 w))) e).0

module _ (m : Measure) (ms : List Measure) (w : ℕ) (ws : List ℕ) (g : good (m ∷ ms) (w ∷ ws) ≡ true) where
  parts : (good_words ms ws ≡ true) × (good_word m w ≡ true)
  unfolding good_words
  parts = both_true (good_words ms ws) (good_word m w) (good_both (m ∷ ms) (w ∷ ws) g).1

  pub first_good : good_word m w ≡ true
  first_good = parts.1

  pub others_good : good ms ws ≡ true
  unfolding good
  others_good = rw (order_behind w ws (good_both (m ∷ ms) (w ∷ ws) g).0, parts.0)

pub data EachGood : List Measure → List ℕ → Type 0 where
  none : EachGood [] []
  more : {m : Measure} {ms : List Measure} {w : ℕ} {ws : List ℕ} → good_word m w ≡ true → EachGood ms ws → EachGood (m ∷ ms) (w ∷ ws)

tested_each : (ms : List Measure) (ws : List ℕ) → good_words ms ws ≡ true → EachGood ms ws
unfolding good_words
tested_each [] [] e = none
tested_each [] (w ∷ ws) e = clash refl e
tested_each (m ∷ ms) [] e = clash refl e
tested_each (m ∷ ms) (w ∷ ws) e = let t = both_true (good_words ms ws) (good_word m w) e in more t.1 (tested_each ms ws t.0)

pub each_good : (ms : List Measure) (ws : List ℕ) → good ms ws ≡ true → EachGood ms ws
each_good ms ws e = tested_each ms ws (good_both ms ws e).1

pub each_many : {ms : List Measure} {ws : List ℕ} → EachGood ms ws → length ws ≡ length ms
each_many none = refl
each_many (more g e) = ap suc (each_many e)

pub each_bits : {ms : List Measure} {ws : List ℕ} → EachGood ms ws → (i : ℕ) → get_or ws i 0 < 2 ^ 32
each_bits none i = omega arith
each_bits (more {m} {w = w} g e) zero = (good_parts m w g).bits
each_bits (more g e) (suc i) = each_bits e i
