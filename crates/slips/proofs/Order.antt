-- The order of floats, by std's laws on it.
--
--   numbers_order   a number is at most another exactly where that is not below it
--   at_most         a float is at most another exactly where both are numbers and the other is not below it
use mathlib.Core.Bool.{true, false, not}
use mathlib.Core.Logic.{◌↔◌}
use mathlib.Core.Path.{◌≡◌, refl}
use lib.Ieee.{Float, nan, inf, fin, is_nan, lt, le}
use lib.Ieee.Bits.{is_true}
use Rattle.std.specs.Float.{NotNan}
use Rattle.std.proofs.lemmas.Float.{le_left, le_right, le_of_not-lt, lt_of_lt_of_le, lt_irrefl, T_from_true, T_from_false}
use Rattle.words.proofs.Cases.{by_test}

number : (x : Float) → (x ≡ nan → ⊥) → NotNan x
unfolding is_nan
number nan f = absurd (f refl)
number (inf s) f = tt
number (fin s m e) f = tt

not_nan : (x : Float) → NotNan x → x ≡ nan → ⊥
unfolding is_nan
not_nan nan h e = h
not_nan (inf s) h e = cc
not_nan (fin s m d) h e = cc

module _ (x y : Float) where
  not_below : le x y ≡ true → lt y x ≡ false
  not_below h =
      by_test (lt y x) (λ e. absurd (lt_irrefl y (lt_of_lt_of_le y x y (T_from_true (lt y x) e) (T_from_true (le x y) h)))) (λ e. e)

  pub numbers_order : NotNan x → NotNan y → le x y ≡ not (lt y x)
  numbers_order f g =
      by_test (le x y) (λ h. rw (h, not_below h))
      (λ h. by_test (lt y x) (λ e. rw (h, e)) (λ e. let l = is_true (le x y) (le_of_not-lt y x g f (T_from_false (lt y x) e)) in cc))

  pub at_most : (le x y ≡ true) ↔ ((x ≡ nan → ⊥) × (y ≡ nan → ⊥) × (lt y x ≡ false))
  at_most = (
    λ h. let t = T_from_true (le x y) h in (not_nan x (le_left x y t), not_nan y (le_right x y t), not_below h),
    λ p. rw (numbers_order (number x p.0) (number y p.1), p.2),
  )
