-- What the functions inside the crate ask and promise, over the bytes that are left.
--
--   byte_ahead b p a          the answer a with the byte b of 128 or more in front: no number is 0 behind another byte; p is the place where a number
--                             in a begins, and so of a 0's only byte
--   Joins a                   a number that leaves room for seven bits more, or a refusal
--   WritesRest v s at r out   the form of v is stored from the place of s on, r bytes, and leaves out
--   RestFits v s at left      the form of v has at most left bytes, and they fit
use Rattle.std.specs.Prelude.{ℕ, ◌+◌, ◌*◌, ◌%◌, ◌^◌, ◌<◌, ◌≤◌, List, ◌≡◌, eqb, length}
use Rattle.std.proofs.lemmas.List.Edits.{sets}
use Rattle.words.specs.Answer.{pick, Answer, gives, refused, by_at}
use Rattle.uleb128.specs.Unsigned.{form}

abbrev pub byte_ahead : ℕ → ℕ → Answer (ℕ × ℕ) → Answer (ℕ × ℕ)
byte_ahead b p (gives x) = pick (eqb x.0 0) (refused (by_at 3 p)) (gives (b % 128 + 128 * x.0, x.1 + 1))
byte_ahead b p (refused k) = refused k

abbrev pub Joins : Answer (ℕ × ℕ) → Type 0
Joins (gives p) = (p.0 < 2 ^ 57) × (p.1 < 10)
Joins (refused k) = Unit

pub record WritesRest (v : ℕ) (s : List ℕ) (at r : ℕ) (out : List ℕ) : Type 0 where
  pub count : r ≡ length (form v)
  pub leaves : out ≡ sets s at (form v)

pub record RestFits (v : ℕ) (s : List ℕ) (at left : ℕ) : Type 0 where
  pub few : length (form v) ≤ left
  pub room : at + length (form v) ≤ length s
