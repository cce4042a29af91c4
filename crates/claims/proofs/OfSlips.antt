-- What is claimed of setting slips, proved.
--
--   slips   the chapter
use mathlib.Core.Bool.{Bool}
use mathlib.Core.Logic.{⊎_elim}
use mathlib.Core.Path.{◌≡◌, sym, ◌∙◌}
use lib.Ieee.{Float}
use Rattle.words.proofs.Cases.{by_test}
use Rattle.words.proofs.OneMeaning.{same_written}
use Rattle.slips.specs.Promise.{LiesInRange}
use Rattle.slips.specs.declared.Range.{Range}
use Rattle.slips.proofs.OneSetting.{same_read, some_setting, some_written}
use Rattle.slips.proofs.Lies.{some_lies}
use Rattle.claims.specs.OfSlips.{NoNumber, OfSlips}
use Rattle.claims.proofs.SlipRows.{slip_accepts, slip_refuses, slip_excludes, slip_exhausts}
use Rattle.claims.proofs.SlipTrips.{slip_writes, slip_write_read, slip_read_write, slip_spelled, one_slip, slip_length, slip_behind}

no_number : NoNumber
no_number t range r p h =
    by_test r (λ e. let w = p.is.0 e in absurd (⊎_elim w.torque_number (⊎_elim w.lowest_number w.highest_number) h)) (λ e. e)

one_lies : (t : Float) (range : Range) (r r' : Bool) → LiesInRange t range r → LiesInRange t range r' → r ≡ r'
one_lies t range r r' a b =
    by_test r (λ e. e ∙ sym (b.is.1 (a.is.0 e))) (λ e. by_test r' (λ f. a.is.1 (b.is.0 f) ∙ sym f) (λ f. e ∙ sym f))

pub slips : OfSlips
slips = record {
  slip_accepts = slip_accepts;
  slip_refuses = slip_refuses;
  slip_excludes = slip_excludes;
  slip_exhausts = slip_exhausts;
  slip_writes = slip_writes;
  slip_write_read = slip_write_read;
  slip_read_write = slip_read_write;
  slip_spelled = slip_spelled;
  one_slip = one_slip;
  slip_length = slip_length;
  slip_behind = slip_behind;
  in_range = λ t range r p. p.is;
  no_number = no_number;
  met = record {
    setting = some_setting;
    written = some_written;
    in_range = some_lies;
  };
  one = record {
    setting = λ s at r r' a b. same_read r r' a.f32 b.f32 (a.answer ∙ sym b.answer);
    written = λ v s at r r' out out' a b. (same_written r r' (a.answer ∙ sym b.answer), a.leaves ∙ sym b.leaves);
    in_range = one_lies;
  };
}
