-- What is true of the width inside the crate, and what its reader asks.
--
--   Wide most top     a width whose numbers fit 64 bits
--   NotOneByte s at   no byte below 128 stands at this place of s
use Rattle.std.specs.Prelude.{ℕ, ◌+◌, ◌-◌, ◌*◌, ◌^◌, ◌≤◌, ◌<◌, List, length, get_or}

pub record Wide (most top : ℕ) : Type 0 where
  pub some : 1 < most
  pub few : most ≤ 10
  pub low : top < 128
  pub fits : 128 ^ (most - 1) * (top + 1) ≤ 2 ^ 64

abbrev pub NotOneByte : List ℕ → ℕ → Type 0
NotOneByte s at = at < length s → 128 ≤ get_or s at 0
