-- Whether a torque lies in a range, and the answer that there is.
--
--   lies_above   where the lowest is at most the torque, the answer is whether the torque is at most the highest,
--   lies_under   and no where it isn't
--   some_lies    an answer that there is
use mathlib.Core.Bool.{Bool, true, false}
use mathlib.Core.Path.{◌≡◌, refl}
use lib.Ieee.{Float, le}
use Rattle.words.proofs.Cases.{by_test, clash}
use Rattle.slips.specs.Promise.{Within, LiesInRange}
use Rattle.slips.specs.declared.Range.{Range}
use Rattle.slips.proofs.Order.{at_most}

module _ (t : Float) (range : Range) where
  at_least_lowest : Within t range → le range.lowest t ≡ true
  at_least_lowest w = (at_most range.lowest t).1 (w.lowest_number, w.torque_number, w.not_under)

  pub lies_above : le range.lowest t ≡ true → LiesInRange t range (le t range.highest)
  lies_above e = record {
    is = (
      λ f. let a = (at_most range.lowest t).0 e in
          let b = (at_most t range.highest).0 f in
          record { torque_number = a.1; lowest_number = a.0; highest_number = b.1; not_under = a.2; not_over = b.2 },
      λ w. (at_most t range.highest).1 (w.torque_number, w.highest_number, w.not_over),
    );
  }

  pub lies_under : le range.lowest t ≡ false → LiesInRange t range false
  lies_under e = record { is = (λ f. clash refl f, λ w. clash e (at_least_lowest w)) }

  pub some_lies : (r : Bool) × LiesInRange t range r
  some_lies = by_test (le range.lowest t) (λ e. (le t range.highest, lies_above e)) (λ e. (false, lies_under e))
