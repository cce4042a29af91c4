-- What the functions inside the crate ask and promise.
--
--   standing rule s p   what a step says at a start p before the end of s: a tail, or what the group there says
--   missing s p k       what it says there where the reading is refused by k: a tail, or a gap
--   InRun s p q         all bytes from the place p of s up to the place q are 128 or more
use Rattle.std.specs.Prelude.{ℕ, ◌+◌, ◌≤◌, List, eqb, length, take, drop}
use Rattle.words.specs.Answer.{pick, Why}
use Rattle.groups.specs.Group.{run}
use Rattle.blocks.specs.Block.{Stepped, gap, tail, says_by}
use Rattle.blocks.specs.declared.Rule.{Rule}

unfoldable pub standing : Rule → List ℕ → ℕ → Stepped
standing rule s p =
    pick (eqb (run (drop p s)) (length (drop p s))) (tail (run (drop p s)) p) (says_by rule (take (run (drop p s) + 1) (drop p s)) p)

unfoldable pub missing : List ℕ → ℕ → Why → Stepped
missing s p k =
    pick (eqb (run (drop p s)) (length (drop p s))) (tail (run (drop p s)) p) (gap k (run (drop p s) + 1) (p + (run (drop p s) + 1)))

pub record InRun (s : List ℕ) (p q : ℕ) : Type 0 where
  pub here : p ≤ length s
  pub from : p ≤ q
  pub high : q ≤ p + run (drop p s)
