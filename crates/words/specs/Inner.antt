-- What private functions of the writers that stand on this crate promise.
--
--   Puts bytes s at r out   the bytes are stored from the place of s on, r is the place behind them, and all else is kept in out
use Rattle.std.specs.Prelude.{ℕ, ◌+◌, List, ◌≡◌, length}
use Rattle.std.proofs.lemmas.List.Edits.{sets}

pub record Puts (bytes s : List ℕ) (at r : ℕ) (out : List ℕ) : Type 0 where
  pub behind : r ≡ at + length bytes
  pub leaves : out ≡ sets s at bytes
