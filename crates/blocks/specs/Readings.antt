-- What a reader gives of a block, step after step.
--
--   Block s               the bytes s are a block within the limit
--   readings f gs         the readings of the groups gs, each by the rule that f chooses for its place
--   ReaderGives f s p l   from the place p on, steps by the rules that f chooses give the readings l, each with its place and its count of bytes,
--                         until one says Tail or Finished; where a gap stands at p, the byte that decided it is counted from there
use Rattle.std.specs.Prelude.{ℕ, ◌+◌, ◌≤◌, List, [], ◌∷◌, length, Ok}
use Rattle.words.specs.Answer.{Answer, gives, refused, because_at}
use Rattle.words.specs.declared.Count.{Count}
use Rattle.words.specs.declared.Refusal.{Refusal}
use Rattle.groups.specs.Group.{Bytes}
use Rattle.groups.specs.declared.Value.{Value}
use Rattle.blocks.specs.Block.{Val, read_by, block_limit}
use Rattle.blocks.specs.Promise.{means_value, Steps}
use Rattle.blocks.specs.declared.Cursor.{Cursor}
use Rattle.blocks.specs.declared.Rule.{Rule}
use Rattle.blocks.specs.declared.Step.TheVariants as S

pub record Block (s : List ℕ) : Type 0 where
  pub bytes : Bytes s
  pub short : length s ≤ block_limit

abbrev pub readings : (ℕ → Rule) → List (ℕ × ℕ × List ℕ) → List (ℕ × ℕ × Answer Val)
readings f [] = []
readings f (k ∷ l) = (k.0, k.1, read_by (f k.0) k.2) ∷ readings f l

pub data ReaderGives (f : ℕ → Rule) (s : List ℕ) : ℕ → List (ℕ × ℕ × Answer Val) → Type 0 where
  at_end : (p : ℕ) (c : Cursor) → Steps (f p) s p (Ok (S.Finished c)) → ReaderGives f s p []
  at_tail : (p : ℕ) (n : Count) (c : Cursor) → Steps (f p) s p (Ok (S.Tail n c)) → ReaderGives f s p []
  at_number : (p : ℕ) (v : Value) (n : Count) (c : Cursor) (l : List (ℕ × ℕ × Answer Val))
      → Steps (f p) s p (Ok (S.Number v n c)) → ReaderGives f s c.place.0 l → ReaderGives f s p ((p, n.0, gives (means_value v)) ∷ l)
  at_gap : (p : ℕ) (why : Refusal) (j : ℕ) (n : Count) (c : Cursor) (l : List (ℕ × ℕ × Answer Val))
      → Steps (f p) s p (Ok (S.Gap (record { 0 = why; 1 = (record { 0 = p + j }) }) n c)) → ReaderGives f s c.place.0 l
      → ReaderGives f s p ((p, n.0, refused (because_at why j)) ∷ l)
