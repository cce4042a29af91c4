-- What the functions inside the crate ask and promise.
--
--   word_of w       the word for what stands at a place
--   spaced t        the word t between two spaces
--   Line            what a line says: what stands there, its value and how many bytes of the block it is of; or that there is none
--   means_row       what an answer says of it
--   line_said x     the line of what a step says
--   SaysRow s p r   r is the line of what a step from the place p by the unsigned rule says
use Rattle.std.specs.Prelude.{ℕ, List, ◌++◌, ◌≡◌, Option, Some, None}
use Rattle.words.specs.declared.Count.{Count}
use Rattle.texts.specs.Texts.{ascii}
use Rattle.blocks.specs.Block.{unsigned, signed, Stepped, number, gap, tail, finished, refuses, stepping}
use Rattle.blocks.specs.declared.Rule.TheVariants.{Unsigned}
use Rattle.listing.specs.Listing.{fault}
use Rattle.listing.specs.declared.rows.What.{What}
use Rattle.listing.specs.declared.rows.What.TheVariants as W

abbrev pub word_of : What → List ℕ
word_of W.Number = ascii "number"
word_of W.NotShortest = ascii "not-shortest"
word_of W.Overflow = ascii "overflow"
word_of W.Tail = ascii "tail"

abbrev pub spaced : List ℕ → List ℕ
spaced t = ascii " " ++ t ++ ascii " "

pub data Line : Type 0 where
  says : List ℕ → ℕ → ℕ → Line
  none : Line

abbrev pub means_row : Option (What × ℕ × Count) → Line
means_row (Some (w, v, n)) = says (word_of w) v n.0
means_row None = none

-- from a start no step by the unsigned rule says a signed number, or refuses
abbrev pub line_said : Stepped → Line
line_said (number (unsigned v) n q) = says (ascii "number") v n
line_said (number (signed v) n q) = none
line_said (gap k n q) = says (fault k) n n
line_said (tail n q) = says (ascii "tail") n n
line_said (finished q) = none
line_said (refuses k) = none

pub record SaysRow (s : List ℕ) (p : ℕ) (r : Option (What × ℕ × Count)) : Type 0 where
  pub is : means_row r ≡ line_said (stepping Unsigned s p)
