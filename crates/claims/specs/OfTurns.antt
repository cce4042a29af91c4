-- What is claimed of turns.
--
--   MeaningRow           the rows of each answer
--   TurnRow              document 01's row of each meaning of a turn, without a thread
--   RightThread          under a right thread a turn means just that
--   LeftThread           under a left thread it means that with the two names changed places
--   TurnsMet, TurnsOne   an answer meets the promise, and no second
--   OfTurns              all of it
use Rattle.std.specs.Prelude.{ℕ, ◌≤◌, ◌<◌, ◌≡◌, ◌↔◌, ℤ, pos, ◌<ℤ◌, Ok, Err, Result}
use Rattle.words.specs.declared.Refusal.TheVariants.{Thread}
use Rattle.words.specs.declared.Refusal.{Refusal}
use Rattle.turns.specs.Turns.{Means, swapped}
use Rattle.turns.specs.declared.Turn.{Turn}
use Rattle.turns.specs.declared.Turn.TheVariants.{Tighten, Loosen, Hold}

-- What a turn means under a thread code: 0 is right, 1 is left, where the two names change places. Zero is Hold for both. Any other code is
-- refused as Thread, whatever the turn.
pub data MeaningRow (v : ℤ) : ℕ → Result Turn Refusal → Type 0 where
  right_above : pos 0 <ℤ v → MeaningRow v 0 (Ok Tighten)
  right_below : v <ℤ pos 0 → MeaningRow v 0 (Ok Loosen)
  left_above : pos 0 <ℤ v → MeaningRow v 1 (Ok Loosen)
  left_below : v <ℤ pos 0 → MeaningRow v 1 (Ok Tighten)
  holds : {code : ℕ} → code ≤ 1 → v ≡ pos 0 → MeaningRow v code (Ok Hold)
  no_thread : {code : ℕ} → 1 < code → MeaningRow v code (Err Thread)

-- Document 01's sentence, which knows no thread: above zero is Tighten, below zero is Loosen, zero is Hold.
abbrev pub TurnRow : ℤ → Turn → Type 0
TurnRow v Tighten = pos 0 <ℤ v
TurnRow v Loosen = v <ℤ pos 0
TurnRow v Hold = v ≡ pos 0

abbrev pub RightThread : Type 0
RightThread = (v : ℤ) (r : Result Turn Refusal) → Means v 0 r ↔ ((turn : Turn) × (r ≡ Ok turn) × TurnRow v turn)

abbrev pub LeftThread : Type 0
LeftThread = (v : ℤ) (r : Result Turn Refusal) → Means v 1 r ↔ ((turn : Turn) × (r ≡ Ok (swapped turn)) × Means v 0 (Ok turn))

-- Each promise is met by some answer, with some final content of what was lent, on every input: no claim over promises is empty.
pub record TurnsMet : Type 0 where
  pub turn : (v : ℤ) (code : ℕ) → (r : Result Turn Refusal) × Means v code r

-- And by no second: no second answer, and no second final content of what was lent.
pub record TurnsOne : Type 0 where
  pub turn : (v : ℤ) (code : ℕ) (r r' : Result Turn Refusal) → Means v code r → Means v code r' → r ≡ r'

pub record OfTurns : Type 0 where
  pub turn_rows : (v : ℤ) (code : ℕ) (r : Result Turn Refusal) → Means v code r ↔ MeaningRow v code r
  pub right_thread : RightThread
  pub left_thread : LeftThread
  pub met : TurnsMet
  pub one : TurnsOne
