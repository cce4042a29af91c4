-- What the functions of this crate promise.
--
--   Fronts t s r s'        the text t stands at the front of the buffer, r bytes of it, and all else is kept
--   LaysListing s b r b'   so stands the listing of the block s
use Rattle.std.specs.Prelude.{ℕ, List, ◌++◌, ◌≡◌, length, drop}
use Rattle.listing.specs.Listing.{text}

pub record Fronts (t before : List ℕ) (r : ℕ) (after : List ℕ) : Type 0 where
  pub count : r ≡ length t
  pub bytes : after ≡ t ++ drop (length t) before

abbrev pub LaysListing : List ℕ → List ℕ → ℕ → List ℕ → Type 0
LaysListing s before r after = Fronts (text s) before r after
