-- Document 01's row 5: bytes laid down at a place, all else kept; or, where they don't fit, nothing.
--
--   fits size at n          n bytes at the place at fit a buffer of so many bytes
--   writing s at n          the answer of a write of n bytes: the count, or 5
--   laid s at bytes         the buffer afterwards
--   Lays bytes s at r out   a writer that is to lay down these bytes at this place of s answers r and leaves out
--   LaysExactly             what that comes to, in the words of row 5
--   Takes bytes r           a length that is to count these bytes answers r
use Rattle.std.specs.Prelude.{ℕ, ◌+◌, ◌≤◌, ◌<◌, Bool, List, ◌++◌, ◌≡◌, ◌↔◌, leb, length, take, drop, Ok, Err}
use Rattle.words.specs.Answer.{pick, Answer, gives, refused, means_written, by, Written}
use Rattle.words.specs.declared.Count.{Count}
use Rattle.words.specs.declared.Refusal.TheVariants.{NoRoom}

abbrev pub fits : ℕ → ℕ → ℕ → Bool
fits size at n = leb (at + n) size

unfoldable pub writing : List ℕ → ℕ → ℕ → Answer ℕ
writing s at n = pick (fits (length s) at n) (gives n) (refused (by 5))

unfoldable pub laid : List ℕ → ℕ → List ℕ → List ℕ
laid s at bytes = pick (fits (length s) at (length bytes)) (take at s ++ bytes ++ drop (at + length bytes) s) s

pub record Lays (bytes s : List ℕ) (at : ℕ) (r : Written) (out : List ℕ) : Type 0 where
  pub answer : means_written r ≡ writing s at (length bytes)
  pub leaves : out ≡ laid s at bytes

-- A writer answers the count and leaves exactly the bytes at the place and all else kept, or answers 5 and leaves every byte, the
-- latter exactly when place + bytes needed > buffer length.
abbrev pub LaysExactly : (bytes before : List ℕ) (at : ℕ) (r : Written) (after : List ℕ) → Type 0
LaysExactly bytes before at r after =
    ((at + length bytes ≤ length before)
    ↔ ((r ≡ Ok (record { 0 = length bytes })) × (after ≡ take at before ++ bytes ++ drop (at + length bytes) before)))
    × ((length before < at + length bytes) ↔ ((r ≡ Err NoRoom) × (after ≡ before)))
    × (length after ≡ length before)

pub record Takes (bytes : List ℕ) (r : Count) : Type 0 where
  pub is : r.0 ≡ length bytes
