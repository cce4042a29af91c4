-- An instance for each hypothesis of the claims of slips that `met` does not already give: no claim is empty.
--
--   written, one_f32   slip_write_read: a torque of one newton metre, 00 00 80 3f, is written into a buffer of five bytes; it is an f32
--   read_back, bytes   slip_read_write, slip_spelled, slip_behind: and read there
--   good_one           slip_writes, one_slip: it is a good setting
--   minus_bad          slip_writes: a torque of minus zero is none
--   unknown            slip_behind: the kind 4 is refused by 11; what is answered with more bytes behind is given by `met`
--   within             in_range: the torque lies in the range from itself to itself
--   nan_outside        no_number: a not-a-number does not
use Prim.Native.Nat.{ℕ, zero, suc}
use mathlib.Core.Bool.{true, false}
use mathlib.Core.List.{List, [], ◌∷◌}
use mathlib.Core.Path.{refl}
use native.Mathlib.Omega.{arith}
use lib.Ieee.{Float, nan, fin, to_bits, fits, size, lt, le, eq}
use lib.IntN.{pos}
use Rattle.std.specs.Prelude.{Ok, Err}
use Rattle.words.specs.Lays.{writing, laid}
use Rattle.words.specs.declared.Count.{Count}
use Rattle.words.specs.declared.Refusal.TheVariants.{Slip}
use Rattle.words.proofs.Cases.{clash}
use Rattle.groups.specs.Group.{Bytes}
use Rattle.slips.specs.Good.{good_word, good_words, is_in_order, good}
use Rattle.slips.specs.Slip.{little, judged, bodied, slip, slip_at}
use Rattle.slips.specs.Promise.{means_setting, F32, ReadsSetting, WritesSetting, Within, LiesInRange}
use Rattle.slips.specs.declared.Range.{Range}
use Rattle.slips.specs.declared.Setting.TheVariants as S
use Rattle.slips.proofs.Lies.{lies_above, lies_under}
use Rattle.claims.specs.OfSlips.{Good}
use Rattle.claims.proofs.SlipGood.{good_says}

abbrev one : Float
one = fin false 1 (pos 0)

abbrev minus : Float
minus = fin true 0 (pos 0)

abbrev range : Range
range = record { lowest = one; highest = one }

abbrev slip_of_one : List ℕ
slip_of_one = 1 ∷ 0 ∷ 0 ∷ 0x80 ∷ 0x3f ∷ []

abbrev five : Count
five = record { 0 = 5 }

written : WritesSetting (S.Torque one) (9 ∷ 9 ∷ 9 ∷ 9 ∷ 9 ∷ []) 0 (Ok five) slip_of_one
unfolding to_bits size good_word good_words is_in_order good writing laid
written = record { answer = refl; leaves = refl }

one_f32 : F32 (S.Torque one)
unfolding fits
one_f32 = tt

read_back : ReadsSetting slip_of_one 0 (Ok ((S.Torque one), five))
unfolding to_bits size good_word good_words is_in_order good little judged bodied slip slip_at
read_back = record { answer = refl; f32 = one_f32 }

bytes : Bytes slip_of_one
bytes zero = omega arith
bytes (suc zero) = omega arith
bytes (suc (suc zero)) = omega arith
bytes (suc (suc (suc zero))) = omega arith
bytes (suc (suc (suc (suc zero)))) = omega arith
bytes (suc (suc (suc (suc (suc i))))) = omega arith

good_one : Good (means_setting (S.Torque one))
unfolding to_bits size good_word good_words is_in_order good
good_one = (good_says (means_setting (S.Torque one))).0 refl

minus_bad : Good (means_setting (S.Torque minus)) → ⊥
unfolding to_bits size good_word good_words is_in_order good
minus_bad g = clash refl ((good_says (means_setting (S.Torque minus))).1 g)

unknown : ReadsSetting (4 ∷ []) 0 (Err Slip)
unfolding slip slip_at
unknown = record { answer = refl; f32 = tt }

within : Within one range
unfolding le lt eq
within = (lies_above one range refl).is.0 refl

nan_outside : LiesInRange nan range false
unfolding le lt eq
nan_outside = lies_under nan range refl
