-- What the functions of this crate promise.
--
--   means_setting        the kind and the bits of a setting
--   F32                  its floats are f32s, as those of any setting that a program holds are: a number that fits f32 is written in one way
--   means_read_setting   what the reader's answer says; `OfF32`: its floats are f32s
--   ReadsSetting         reading the setting at the place of s answers r
--   WritesSetting        writing the setting v at the place of s answers r and leaves out: 11 unless it is good, then 5
--   Within t range       the torque t is neither under the lowest nor over the highest, and none of the three is a not-a-number
--   LiesInRange          whether t lies in the range is answered by r
use Rattle.std.specs.Prelude.{ℕ, Bool, true, false, List, [], ◌∷◌, ◌↔◌, ◌≡◌, T, Float, length, Result, Ok, Err}
use Rattle.std.specs.Float.{nan, binary32}
use Rattle.std.specs.Float.Ieee.{to_bits, lt, fits}
use Rattle.words.specs.Answer.{pick, Answer, gives, refused, by, because, means_written, Written}
use Rattle.words.specs.Lays.{writing, laid}
use Rattle.words.specs.declared.Count.{Count}
use Rattle.words.specs.declared.Refusal.{Refusal}
use Rattle.slips.specs.Slip.{form, good_setting, slip_at}
use Rattle.slips.specs.declared.Range.{Range}
use Rattle.slips.specs.declared.Setting.{Setting}
use Rattle.slips.specs.declared.Setting.TheVariants as S

abbrev pub means_setting : Setting → ℕ × List ℕ
means_setting S.Nothing = (0, [])
means_setting (S.Torque x) = (1, to_bits binary32 x ∷ [])
means_setting (S.Angle x) = (2, to_bits binary32 x ∷ [])
means_setting (S.Range r) = (3, to_bits binary32 r.lowest ∷ to_bits binary32 r.highest ∷ [])

abbrev pub F32 : Setting → Type 0
F32 S.Nothing = Unit
F32 (S.Torque x) = T (fits binary32 x)
F32 (S.Angle x) = T (fits binary32 x)
F32 (S.Range r) = T (fits binary32 r.lowest) × T (fits binary32 r.highest)

abbrev pub means_read_setting : Result (Setting × Count) Refusal → Answer ((ℕ × List ℕ) × ℕ)
means_read_setting (Ok (v, n)) = gives (means_setting v, n.0)
means_read_setting (Err why) = refused (because why)

abbrev pub OfF32 : Result (Setting × Count) Refusal → Type 0
OfF32 (Ok (v, n)) = F32 v
OfF32 (Err why) = Unit

pub record ReadsSetting (s : List ℕ) (at : ℕ) (r : Result (Setting × Count) Refusal) : Type 0 where
  pub answer : means_read_setting r ≡ slip_at s at
  pub f32 : OfF32 r

pub record WritesSetting (v : Setting) (s : List ℕ) (at : ℕ) (r : Written) (out : List ℕ) : Type 0 where
  pub answer : means_written r ≡ pick (good_setting (means_setting v)) (writing s at (length (form (means_setting v)))) (refused (by 11))
  pub leaves : out ≡ pick (good_setting (means_setting v)) (laid s at (form (means_setting v))) s

pub record Within (t : Float) (range : Range) : Type 0 where
  pub torque_number : t ≡ nan → ⊥
  pub lowest_number : range.lowest ≡ nan → ⊥
  pub highest_number : range.highest ≡ nan → ⊥
  pub not_under : lt t range.lowest ≡ false
  pub not_over : lt range.highest t ≡ false

pub record LiesInRange (t : Float) (range : Range) (r : Bool) : Type 0 where
  pub is : (r ≡ true) ↔ Within t range
