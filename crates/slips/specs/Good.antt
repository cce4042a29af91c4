-- Document 02, #104: when the words of a body are good. A word is the 32 bits of an f32: the highest is the sign's, and below it those of an infinity are
-- 255 · 2^23, and those of a not-a-number above that.
--
--   Measure             what a word measures: a torque in newton metres, or an angle in degrees
--   sign_bit            the sign's bit alone, which is minus zero; `infinity`: the bits of an infinity
--   is_below_zero m w   a torque whose sign's bit is set
--   good_word m w       32 bits, not minus zero, no torque below zero, and neither an infinity nor a not-a-number
--   good_words ms ws    there is a word for each measure, and each is good
--   is_in_order ws      no word's float is above that of the next
--   good ms ws          both
use Rattle.std.specs.Prelude.{ℕ, ◌*◌, ◌%◌, ◌^◌, Bool, true, false, not, List, [], ◌∷◌, leb, ltb, eqb}
use Rattle.std.specs.Float.{binary32}
use Rattle.std.specs.Float.Ieee.{of_bits, lt}
use Rattle.words.specs.Answer.{both}

pub data Measure : Type 0 where
  torque angle : Measure

abbrev pub sign_bit : ℕ
sign_bit = 2 ^ 31

abbrev pub infinity : ℕ
infinity = 255 * 2 ^ 23

abbrev pub is_below_zero : Measure → ℕ → Bool
is_below_zero torque w = leb sign_bit w
is_below_zero angle w = false

unfoldable pub good_word : Measure → ℕ → Bool
good_word m w = both (ltb w (2 ^ 32)) (both (not (eqb w sign_bit)) (both (not (is_below_zero m w)) (ltb (w % sign_bit) infinity)))

unfoldable pub good_words : List Measure → List ℕ → Bool
good_words [] [] = true
good_words [] (w ∷ ws) = false
good_words (m ∷ ms) [] = false
good_words (m ∷ ms) (w ∷ ws) = both (good_words ms ws) (good_word m w)

unfoldable pub is_in_order : List ℕ → Bool
is_in_order [] = true
is_in_order (w ∷ []) = true
is_in_order (w ∷ v ∷ ws) = both (is_in_order (v ∷ ws)) (not (lt (of_bits binary32 v) (of_bits binary32 w)))

unfoldable pub good : List Measure → List ℕ → Bool
good ms ws = both (is_in_order ws) (good_words ms ws)
