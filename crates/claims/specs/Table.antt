-- Document 01, "When the number desk refuses", and document 02, #108: the rows that a reader of numbers can give, in the documents'
-- words, and the place of the byte that decided each. Below, the bytes are those from the start on.
--
--   EndRow           fewer bytes than the most, and each is 128 or more (also none)
--   OverflowRow      all earlier bytes are 128 or more, and the byte at the greatest length is outside the table of widths
--   NotShortestRow   the number ends, not too large, and its last byte is one too many
--   Row w s at p     given exactly when, and decided at the place p of s: 1, 2 and 3 for a start that isn't past the end, 4 for one that is; no
--                    other refusal has a row
--   GapRow w g j     why a group is no number of the width, decided by its byte j: 2 or 3
use Rattle.std.specs.Prelude.{ℕ, ◌+◌, ◌-◌, ◌≤◌, ◌<◌, List, ◌++◌, true, false, ◌≡◌, length, get_or, take, drop}
use Rattle.words.specs.declared.Refusal.{Refusal}
use Rattle.words.specs.declared.Refusal.TheVariants.{End, Overflow, NotShortest, Place}
use Rattle.groups.specs.Group.{High, Group}
use Rattle.groups.specs.Width.{Width}

pub record EndRow {A : Type 0} (w : Width A) (bytes : List ℕ) : Type 0 where
  pub fewer : length bytes < w.most
  pub high : High bytes

pub record OverflowRow {A : Type 0} (w : Width A) (bytes : List ℕ) : Type 0 where
  pub there : w.most ≤ length bytes
  pub high : High (take (w.most - 1) bytes)
  pub outside : w.allowed (get_or bytes (w.most - 1) 0) ≡ false

pub record NotShortestRow {A : Type 0} (w : Width A) (bytes : List ℕ) : Type 0 where
  pub group : List ℕ
  pub rest : List ℕ
  pub ends : bytes ≡ group ++ rest
  pub is_group : Group group
  -- not too large
  pub fits : length group ≤ w.most
  pub allowed : length group ≡ w.most → w.allowed (get_or group (length group - 1) 0) ≡ true
  -- the last byte isn't the first, and is one too many
  pub not_first : 1 < length group
  pub too_many : w.extra (get_or group (length group - 2) 0) (get_or group (length group - 1) 0) ≡ true

-- decided by the end of the bytes, by the byte at the greatest length, by the last byte, by the start asked
pub data Row {A : Type 0} (w : Width A) (s : List ℕ) (at p : ℕ) : Refusal → Type 0 where
  ends : at ≤ length s → EndRow w (drop at s) → p ≡ length s → Row w s at p End
  overflows : at ≤ length s → OverflowRow w (drop at s) → p ≡ at + (w.most - 1) → Row w s at p Overflow
  not_shortest : at ≤ length s → (row : NotShortestRow w (drop at s)) → p ≡ at + (length row.group - 1) → Row w s at p NotShortest
  past : length s < at → p ≡ at → Row w s at p Place

pub data GapRow {A : Type 0} (w : Width A) (g : List ℕ) (j : ℕ) : Refusal → Type 0 where
  overflows : OverflowRow w g → j ≡ w.most - 1 → GapRow w g j Overflow
  not_shortest : NotShortestRow w g → j ≡ length g - 1 → GapRow w g j NotShortest
