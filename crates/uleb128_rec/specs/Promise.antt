-- What the functions of this crate promise.
--
--   ReadsU64Rec    reading from the place at on answers r
--   WritesU64Rec   writing v at the place of s answers r and leaves out
use Rattle.std.specs.Prelude.{ℕ, List}
use Rattle.words.specs.Answer.{Reading, means_read, Written}
use Rattle.words.specs.Lays.{Lays}
use Rattle.groups.specs.Width.{Reads}
use Rattle.uleb128.specs.Unsigned.{u64, form}

abbrev pub ReadsU64Rec : List ℕ → ℕ → Reading ℕ → Type 0
ReadsU64Rec s at r = Reads u64 s at (means_read r)

abbrev pub WritesU64Rec : ℕ → List ℕ → ℕ → Written → List ℕ → Type 0
WritesU64Rec v s at r out = Lays (form v) s at r out
