-- What is claimed of a step and of a set-down: document 01's rows, each answer exactly when.
--
--   GroupReads    a group at a place, its reading, its count of bytes and the place past it
--   StepRow       the row of each answer of a step; a gap's place is that of the byte of its group, the j-th, that decided it; `StepRefused`: of each
--                 refusal
--   Least s p q   q is the least start at p or later
--   SetDownRow    the row of each answer of a set-down; `SetDownRefused`: of each refusal
use Rattle.std.specs.Prelude.{ℕ, ◌+◌, ◌≤◌, ◌<◌, ◌≡◌, List, length, Result, Ok, Err}
use Rattle.words.specs.Answer.{Answer, gives, refused, because_at}
use Rattle.words.specs.declared.Refusal.{Refusal}
use Rattle.words.specs.declared.Refusal.TheVariants.{Place, NotAStart, TooLong, NoStart}
use Rattle.blocks.specs.Block.{Val, read_by, block_limit}
use Rattle.blocks.specs.GroupsAndTail.{Start, GroupAt, TailAt}
use Rattle.blocks.specs.Promise.{means_value}
use Rattle.blocks.specs.declared.Rule.{Rule}
use Rattle.blocks.specs.declared.Step.{Step}
use Rattle.blocks.specs.declared.Step.TheVariants as S
use Rattle.blocks.specs.declared.Cursor.{Cursor}

-- a group of n bytes stands at p, its reading is a, and q is just past it
pub record GroupReads (rule : Rule) (s : List ℕ) (p : ℕ) (a : Answer Val) (n q : ℕ) : Type 0 where
  pub group : List ℕ
  pub stands : GroupAt s p group
  pub reads : read_by rule group ≡ a
  pub count : n ≡ length group
  pub next : q ≡ p + length group

pub data StepRefused (s : List ℕ) (p : ℕ) : Refusal → Type 0 where
  too_long : block_limit < length s → StepRefused s p TooLong
  past : length s ≤ block_limit → length s < p → StepRefused s p Place
  not_a_start : length s ≤ block_limit → p < length s → (Start s p → ⊥) → StepRefused s p NotAStart

abbrev pub StepRow : Rule → List ℕ → ℕ → Result Step Refusal → Type 0
StepRow rule s p (Ok (S.Number v n c)) = (length s ≤ block_limit) × GroupReads rule s p (gives (means_value v)) n.0 c.place.0
StepRow rule s p (Ok (S.Gap fault n c)) =
    (length s ≤ block_limit) × (j : ℕ) × (fault.1.0 ≡ p + j) × GroupReads rule s p (refused (because_at fault.0 j)) n.0 c.place.0
StepRow rule s p (Ok (S.Tail n c)) = (length s ≤ block_limit) × TailAt s p × (p + n.0 ≡ length s) × (c.place.0 ≡ p)
StepRow rule s p (Ok (S.Finished c)) = (length s ≤ block_limit) × (p ≡ length s) × (c.place.0 ≡ p)
StepRow rule s p (Err why) = StepRefused s p why

pub data SetDownRefused (s : List ℕ) (p : ℕ) : Refusal → Type 0 where
  too_long : block_limit < length s → SetDownRefused s p TooLong
  past : length s ≤ block_limit → length s < p → SetDownRefused s p Place
  no_start : length s ≤ block_limit → p ≤ length s → ((q : ℕ) → p ≤ q → Start s q → ⊥) → SetDownRefused s p NoStart

-- q is the least start at p or later
pub record Least (s : List ℕ) (p q : ℕ) : Type 0 where
  pub from : p ≤ q
  pub start : Start s q
  pub none_before : (j : ℕ) → p ≤ j → j < q → Start s j → ⊥

abbrev pub SetDownRow : List ℕ → ℕ → Result Cursor Refusal → Type 0
SetDownRow s p (Ok c) = (length s ≤ block_limit) × Least s p c.place.0
SetDownRow s p (Err why) = SetDownRefused s p why
