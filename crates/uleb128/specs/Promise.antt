-- What the functions of this crate promise.
--
--   WritesU64, WritesU32   writing v at the place of s answers r and leaves out
--   LengthU64, LengthU32   the number takes r bytes
--   ReadsU64, ReadsU32     reading from the place of s on, at 64 or at 32 bits, answers r
use Rattle.std.specs.Prelude.{ℕ, List}
use Rattle.words.specs.Answer.{Written, Reading, means_read}
use Rattle.words.specs.Lays.{Lays, Takes}
use Rattle.words.specs.declared.Count.{Count}
use Rattle.groups.specs.Width.{Reads}
use Rattle.uleb128.specs.Unsigned.{form, u64, u32}

abbrev pub WritesU64 : ℕ → List ℕ → ℕ → Written → List ℕ → Type 0
WritesU64 v s at r out = Lays (form v) s at r out

abbrev pub WritesU32 : ℕ → List ℕ → ℕ → Written → List ℕ → Type 0
WritesU32 v s at r out = Lays (form v) s at r out

abbrev pub LengthU64 : ℕ → Count → Type 0
LengthU64 v r = Takes (form v) r

abbrev pub LengthU32 : ℕ → Count → Type 0
LengthU32 v r = Takes (form v) r

abbrev pub ReadsU64 : List ℕ → ℕ → Reading ℕ → Type 0
ReadsU64 s at r = Reads u64 s at (means_read r)

abbrev pub ReadsU32 : List ℕ → ℕ → Reading ℕ → Type 0
ReadsU32 s at r = Reads u32 s at (means_read r)
