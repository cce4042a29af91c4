-- Good words of a body of one measure, and of a range: the test of the body from those of its words.
--
--   nothing_good                  a body of no measure is good
--   alone                         a body of one measure is good exactly where its word is
--   range_ordered                 a range of two good torques is good exactly where the lowest is at most the highest
--   lowest_bad, highest_bad       and one with a torque that is not good isn't
--   lowest_good, highest_good     both torques of a good range are good; `numbers`: so their bits are those of numbers
use Prim.Native.Nat.{ℕ}
use mathlib.Core.Bool.{Bool, true, false, not}
use mathlib.Core.List.{[], ◌∷◌}
use mathlib.Core.Path.{◌≡◌, refl, sym}
use lib.Ieee.{binary32, of_bits, lt, le}
use Rattle.words.specs.Answer.{both}
use Rattle.words.proofs.Cases.{both_false}
use Rattle.slips.specs.Good.{Measure, torque, good_word, good_words, is_in_order, good}
use Rattle.slips.proofs.Order.{numbers_order}
use Rattle.slips.proofs.GoodBits.{good_number, good_float}
use Rattle.slips.proofs.GoodWords.{first_good, others_good}

pub nothing_good : good [] [] ≡ true
unfolding good good_words is_in_order
nothing_good = refl

pub alone : (m : Measure) (w : ℕ) → good_word m w ≡ good (m ∷ []) (w ∷ [])
unfolding good good_words is_in_order
alone m w = refl

module _ (low high : ℕ) where
  -- in order, and both good
  range_is : good (torque ∷ torque ∷ []) (low ∷ high ∷ [])
      ≡ both (not (lt (of_bits binary32 high) (of_bits binary32 low))) (both (good_word torque high) (good_word torque low))
  unfolding good good_words is_in_order
  range_is = refl

  pub range_ordered : good_word torque low ≡ true → good_word torque high ≡ true
      → le (of_bits binary32 low) (of_bits binary32 high) ≡ good (torque ∷ torque ∷ []) (low ∷ high ∷ [])
  range_ordered g h =
      rw (range_is, h, g, numbers_order (of_bits binary32 low) (of_bits binary32 high) (good_float torque low g) (good_float torque high h))
      (sym (both_one (not (lt (of_bits binary32 high) (of_bits binary32 low)))))
    where
      both_one : (t : Bool) → both t true ≡ t
      both_one true = refl
      both_one false = refl

  pub highest_bad : good_word torque high ≡ false → false ≡ good (torque ∷ torque ∷ []) (low ∷ high ∷ [])
  highest_bad g = rw (range_is, g) (sym (both_false (not (lt (of_bits binary32 high) (of_bits binary32 low)))))

  pub lowest_bad : good_word torque low ≡ false → false ≡ good (torque ∷ torque ∷ []) (low ∷ high ∷ [])
  lowest_bad g =
      rw (range_is, g, both_false (good_word torque high)) (sym (both_false (not (lt (of_bits binary32 high) (of_bits binary32 low)))))

  pub lowest_good : good (torque ∷ torque ∷ []) (low ∷ high ∷ []) ≡ true → good_word torque low ≡ true
  lowest_good e = first_good torque (torque ∷ []) low (high ∷ []) e

  pub highest_good : good (torque ∷ torque ∷ []) (low ∷ high ∷ []) ≡ true → good_word torque high ≡ true
  highest_good e = first_good torque [] high [] (others_good torque (torque ∷ []) low (high ∷ []) e)

pub ruleset numbers = (good_number, lowest_good, highest_good)
