-- What the functions of this crate promise.
--
--   Numbered r n          n is the number of the refusal r
--   HasRoom size at n r   r says whether n bytes at the place at fit a buffer of so many bytes
use Rattle.std.specs.Prelude.{ℕ, Bool, ◌≡◌}
use Rattle.words.specs.Refusal.{number_of}
use Rattle.words.specs.Lays.{fits}
use Rattle.words.specs.declared.Refusal.{Refusal}

pub record Numbered (r : Refusal) (n : ℕ) : Type 0 where
  pub is : n ≡ number_of r

pub record HasRoom (size at n : ℕ) (r : Bool) : Type 0 where
  pub is : r ≡ fits size at n
