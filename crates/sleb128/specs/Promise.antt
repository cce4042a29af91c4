-- What the functions of this crate promise.
--
--   ReadsI64    reading the bytes from the place at on answers r
--   WritesI64   writing v at the place of s answers r and leaves out
--   LengthI64   the number takes r bytes
use Rattle.std.specs.Prelude.{ℕ, List, ℤ}
use Rattle.words.specs.Answer.{Reading, means_read, Written}
use Rattle.words.specs.Lays.{Lays, Takes}
use Rattle.words.specs.declared.Count.{Count}
use Rattle.groups.specs.Width.{Reads}
use Rattle.sleb128.specs.Signed.{i64, form}

abbrev pub ReadsI64 : List ℕ → ℕ → Reading ℤ → Type 0
ReadsI64 s at r = Reads i64 s at (means_read r)

abbrev pub WritesI64 : ℤ → List ℕ → ℕ → Written → List ℕ → Type 0
WritesI64 v s at r out = Lays (form v) s at r out

abbrev pub LengthI64 : ℤ → Count → Type 0
LengthI64 v r = Takes (form v) r
