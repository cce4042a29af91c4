-- What is claimed of blocks: each answer of a step and of a set-down exactly when, and what a reader gives.
--
--   ReaderFrom             from a start a reader gives exactly the groups from there on
--   ReaderSetDown          from any place, set down, exactly the groups that begin there or later
--   ReadGroup              when a group is a number
--   GapWithin              the byte that decided a gap lies in its group
--   BlocksMet, BlocksOne   an answer meets each promise, and no second
--   OfBlocks               all of it
use Rattle.std.specs.Prelude.{ℕ, ◌+◌, ◌≤◌, ◌<◌, ◌≡◌, List, [], ◌↔◌, length, Result, Ok, Err}
use Rattle.words.specs.Answer.{gives, refused, Answer, because_at}
use Rattle.words.specs.declared.Count.{Count}
use Rattle.words.specs.declared.Place.{Place}
use Rattle.words.specs.declared.Refusal.{Refusal}
use Rattle.words.specs.declared.Refusal.TheVariants.{NoStart}
use Rattle.groups.specs.Group.{Bytes, Group}
use Rattle.groups.specs.Width.{reading}
use Rattle.blocks.specs.Promise.{Steps, SetsDown}
use Rattle.blocks.specs.Readings.{Block, readings, ReaderGives}
use Rattle.blocks.specs.Rows.{StepRow, SetDownRow}
use Rattle.blocks.specs.Block.{Val}
use Rattle.blocks.specs.GroupsAndTail.{Start}
use Rattle.blocks.specs.Places.{listed, from}
use Rattle.blocks.specs.declared.Rule.{Rule}
use Rattle.blocks.specs.declared.Step.{Step}
use Rattle.blocks.specs.declared.Step.TheVariants as S
use Rattle.blocks.specs.declared.Cursor.{Cursor}
use Rattle.claims.specs.Kinds.{Kind, Value, width, form, OfWidth}
use Rattle.claims.specs.Table.{GapRow}

-- From a start, a reader gives exactly the groups that begin there or later, in order, each once; every reading ends.
abbrev pub ReaderFrom : Type 0
ReaderFrom = (f : ℕ → Rule) (s : List ℕ) (p : ℕ) (l : List (ℕ × ℕ × Answer Val)) → Block s → Start s p
    → ReaderGives f s p l ↔ (l ≡ readings f (from p (listed s)))

-- Set down at any place, a reader gives exactly the groups that begin there or later; where there is no start, no group begins there or later.
abbrev pub ReaderSetDown : Type 0
ReaderSetDown = (f : ℕ → Rule) (s : List ℕ) (p : ℕ) → Bytes s →
    ((c : Cursor) (l : List (ℕ × ℕ × Answer Val)) → SetsDown s p (Ok c) → ReaderGives f s c.place.0 l ↔ (l ≡ readings f (from p (listed s))))
    × (SetsDown s p (Err NoStart) → from p (listed s) ≡ [])

-- A group is read as a number exactly when it is its shortest form, and else is a gap, by row 2 or 3, decided by its byte j.
pub record ReadGroup (k : Kind) (g : List ℕ) : Type 0 where
  pub number : (v : Value k) → (reading (width k) g ≡ gives (v, length g)) ↔ (OfWidth k v × (g ≡ form k v))
  pub gap : (why : Refusal) (j : ℕ) → (reading (width k) g ≡ refused (because_at why j)) ↔ GapRow (width k) g j why

-- The byte that decided a gap is one of the n bytes of its group, which stands at p.
abbrev pub GapWithin : Type 0
GapWithin = (rule : Rule) (s : List ℕ) (p : ℕ) (why : Refusal) (at : Place) (n : Count) (c : Cursor) → Bytes s
    → Steps rule s p (Ok (S.Gap (record { 0 = why; 1 = at }) n c)) → (p ≤ at.0) × (at.0 < p + n.0)

-- Each promise is met by some answer, with some final content of what was lent, on every input: no claim over promises is empty.
pub record BlocksMet : Type 0 where
  pub step : (rule : Rule) (s : List ℕ) (p : ℕ) → Bytes s → (r : Result Step Refusal) × Steps rule s p r
  pub set_down : (s : List ℕ) (p : ℕ) → (r : Result Cursor Refusal) × SetsDown s p r

-- And by no second: no second answer, and no second final content of what was lent.
pub record BlocksOne : Type 0 where
  pub step : (rule : Rule) (s : List ℕ) (p : ℕ) (r r' : Result Step Refusal) → Steps rule s p r → Steps rule s p r' → r ≡ r'
  pub set_down : (s : List ℕ) (p : ℕ) (r r' : Result Cursor Refusal) → SetsDown s p r → SetsDown s p r' → r ≡ r'

pub record OfBlocks : Type 0 where
  pub read_group : (k : Kind) (g : List ℕ) → Group g → ReadGroup k g
  pub step_rows : (rule : Rule) (s : List ℕ) (p : ℕ) (r : Result Step Refusal) → Bytes s → Steps rule s p r ↔ StepRow rule s p r
  pub gap_within : GapWithin
  pub set_down_rows : (s : List ℕ) (p : ℕ) (r : Result Cursor Refusal) → SetsDown s p r ↔ SetDownRow s p r
  pub reader_from : ReaderFrom
  pub reader_set_down : ReaderSetDown
  pub met : BlocksMet
  pub one : BlocksOne
