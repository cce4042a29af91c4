-- The answer of `means` is determined by what it says.
--
--   same_meaning   answers that mean the same are the same
use mathlib.Core.Path.{◌≡◌, refl, ap}
use Rattle.std.specs.Prelude.{Result, Ok, Err}
use Rattle.words.specs.declared.Refusal.{Refusal}
use Rattle.words.proofs.OneNumber.{refusal_back}
use Rattle.words.proofs.OneMeaning.{same_by, back}
use Rattle.turns.specs.Turns.{means_meaning}
use Rattle.turns.specs.declared.Turn.{Turn}

pub same_meaning : (r r' : Result Turn Refusal) → means_meaning r ≡ means_meaning r' → r ≡ r'
same_meaning =
    same_by means_meaning (back Ok Err)
    (λ r. elim r as (λ k. (back Ok Err) (means_meaning k) ≡ k) [ Ok turn ↦ refl | Err why ↦ ap Err (refusal_back why) ])
