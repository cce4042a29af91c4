-- What the functions inside the crate ask and promise, over what is left of the block.
--
--   number_ahead v a   the answer a with the number v in front
--   many a             how many numbers
--   StartsBefore s p   p is a start of the block s, before its end
--   Behind s p v q     the number v stands at the start p, and q is the start behind it
--   Passes s p r       r says what stands at the start p: a fault, or a number and the place behind it
--   means_scanned      what the first pass's answer says
--   Scans s r          r says how many numbers the block s has, or its first fault
use Rattle.std.specs.Prelude.{ℕ, ◌≤◌, ◌<◌, List, ◌∷◌, ◌≡◌, length, drop, Result, Ok, Err}
use Rattle.words.specs.Answer.{Answer, gives, refused, because_of}
use Rattle.words.specs.declared.Fault.{Fault}
use Rattle.blocks.specs.Block.{block_limit}
use Rattle.blocks.specs.GroupsAndTail.{Start}
use Rattle.lists.specs.Strict.{numbers}

abbrev pub number_ahead : ℕ → Answer (List ℕ) → Answer (List ℕ)
number_ahead v (gives ns) = gives (v ∷ ns)
number_ahead v (refused k) = refused k

abbrev pub many : Answer (List ℕ) → Answer ℕ
many (gives ns) = gives (length ns)
many (refused k) = refused k

pub record StartsBefore (s : List ℕ) (p : ℕ) : Type 0 where
  pub short : length s ≤ block_limit
  pub before_end : p < length s
  pub start : Start s p

pub record Behind (s : List ℕ) (p v q : ℕ) : Type 0 where
  pub further : p < q
  pub start : Start s q
  pub left : numbers p (drop p s) ≡ number_ahead v (numbers q (drop q s))

abbrev pub Passes : List ℕ → ℕ → Result (ℕ × ℕ) Fault → Type 0
Passes s p (Ok (v, q)) = Behind s p v q
Passes s p (Err fault) = numbers p (drop p s) ≡ refused (because_of fault)

abbrev pub means_scanned : Result ℕ Fault → Answer ℕ
means_scanned (Ok n) = gives n
means_scanned (Err fault) = refused (because_of fault)

pub record Scans (s : List ℕ) (r : Result ℕ Fault) : Type 0 where
  pub is : means_scanned r ≡ many (numbers 0 s)
