-- A step's and a set-down's answers are determined by what they mean.
--
--   same_step, same_set_down   answers that mean the same are the same
use Prim.Native.Nat.{ℕ}
use mathlib.Core.Path.{◌≡◌, refl, ap}
use Rattle.std.specs.Prelude.{Result, Ok, Err}
use Rattle.words.specs.Answer.{number_in}
use Rattle.words.specs.declared.Refusal.{Refusal}
use Rattle.words.proofs.OneNumber.{refusal_of, refusal_back}
use Rattle.words.proofs.OneMeaning.{same_by, back, place_in}
use Rattle.groups.specs.declared.Value.{Value}
use Rattle.groups.specs.declared.Value.TheVariants as N
use Rattle.blocks.specs.Block.{Val, unsigned, signed, Stepped, number, gap, tail, finished, refuses}
use Rattle.blocks.specs.Promise.{means_value, means_step, means_set_down}
use Rattle.blocks.specs.declared.Step.{Step}
use Rattle.blocks.specs.declared.Step.TheVariants as S
use Rattle.blocks.specs.declared.Cursor.{Cursor}

pub same_step : (r r' : Result Step Refusal) → means_step r ≡ means_step r' → r ≡ r'
same_step = same_by means_step back is
  where
    value : Val → Value
    value (unsigned v) = N.Unsigned v
    value (signed v) = N.Signed v

    value_is : (v : Value) → value (means_value v) ≡ v
    value_is (N.Unsigned v) = refl
    value_is (N.Signed v) = refl

    back : Stepped → Result Step Refusal
    back (number v n p) = Ok (S.Number (value v) (record { 0 = n }) (record { place = record { 0 = p } }))
    back (gap k n p) = Ok (S.Gap (record { 0 = (refusal_of (number_in k)); 1 = (record { 0 = place_in k }) }) (record { 0 = n }) (record { place = record { 0 = p } }))
    back (tail n p) = Ok (S.Tail (record { 0 = n }) (record { place = record { 0 = p } }))
    back (finished p) = Ok (S.Finished (record { place = record { 0 = p } }))
    back (refuses k) = Err (refusal_of (number_in k))

    is : (r : Result Step Refusal) → back (means_step r) ≡ r
    is (Ok (S.Number v n c)) = rw (value_is v)
    is (Ok (S.Gap fault n c)) = rw (refusal_back fault.0)
    is (Ok (S.Tail n c)) = refl
    is (Ok (S.Finished c)) = refl
    is (Err a) = rw (refusal_back a)

pub same_set_down : (r r' : Result Cursor Refusal) → means_set_down r ≡ means_set_down r' → r ≡ r'
same_set_down =
    same_by means_set_down (back (λ (p : ℕ). Ok (record { place = record { 0 = p } })) Err)
    (λ r. elim r as (λ k. (back (λ (p : ℕ). Ok (record { place = record { 0 = p } })) Err) (means_set_down k) ≡ k) [ Ok c ↦ refl | Err a ↦ ap Err (refusal_back a) ])
