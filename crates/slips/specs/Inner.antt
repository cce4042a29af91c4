-- What private functions promise.
--
--   HasWord l w rest   the word w stands at the front of l, and rest behind it
--   AnswersSlip l r    a slip at the front of l is answered by r
--   WritesWords        writing a setting of kind k and these words at the place of s answers r and leaves out: 11 unless it is good, then 5
use Rattle.std.specs.Prelude.{ℕ, ◌≤◌, Bool, List, ◌≡◌, length, take, drop, Result}
use Rattle.words.specs.Answer.{pick, refused, by, means_written, Written}
use Rattle.words.specs.Lays.{writing, laid}
use Rattle.words.specs.declared.Count.{Count}
use Rattle.words.specs.declared.Refusal.{Refusal}
use Rattle.slips.specs.Slip.{form, little, slip}
use Rattle.slips.specs.Promise.{means_read_setting, OfF32}
use Rattle.slips.specs.declared.Setting.{Setting}

abbrev pub HasWord : List ℕ → ℕ → List ℕ → Type 0
HasWord l w rest = (4 ≤ length l) × (w ≡ little (take 4 l)) × (rest ≡ drop 4 l)

pub record AnswersSlip (l : List ℕ) (r : Result (Setting × Count) Refusal) : Type 0 where
  pub answer : means_read_setting r ≡ slip l
  pub f32 : OfF32 r

pub record WritesWords (k : ℕ) (ws : List ℕ) (good : Bool) (s : List ℕ) (at : ℕ) (r : Written) (out : List ℕ) : Type 0 where
  pub answer : means_written r ≡ pick good (writing s at (length (form (k, ws)))) (refused (by 11))
  pub leaves : out ≡ pick good (laid s at (form (k, ws))) s
