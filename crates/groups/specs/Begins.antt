-- Document 01's acceptance, over any way to spell numbers: a reader accepts exactly when the bytes from the start begin with
-- the shortest form of a number of the width, and gives that number and its count of bytes.
--
--   Begins form OfWidth s at v n   from the place at on, s begins with the form of v, a number of the width, n bytes long
use Rattle.std.specs.Prelude.{ℕ, ◌≤◌, List, ◌++◌, ◌≡◌, length, drop}

pub record Begins {A : Type 0} (form : A → List ℕ) (OfWidth : A → Type 0) (s : List ℕ) (at : ℕ) (v : A) (n : ℕ) : Type 0 where
  pub here : at ≤ length s
  pub of_width : OfWidth v
  pub rest : List ℕ
  pub begins : drop at s ≡ form v ++ rest
  pub count : n ≡ length (form v)
