-- Document 01, "How a number is spelled": unsigned numbers.
--
--   form v              the shortest form: one byte v if v < 128, else (v mod 128) + 128 followed by the form of v div 128
--   unsigned most top   a width: its most bytes, and the largest last byte allowed at that length
--   u64, u32            the two widths
use Rattle.std.specs.Prelude.{ℕ, List, leb, eqb}
use Rattle.groups.specs.Group.{digits}
use Rattle.groups.specs.Form.{spelling}
use Rattle.groups.specs.declared.Value.TheVariants.{Unsigned}
use Rattle.groups.specs.Width.{Width}

unfoldable pub form : ℕ → List ℕ
form v = spelling (Unsigned v)

-- a last byte 0 that isn't the first byte is one too many
abbrev pub unsigned : ℕ → ℕ → Width ℕ
unsigned most top = record { most = most; allowed = λ b. leb b top; extra = λ before b. eqb b 0; value = digits }

abbrev pub u64 : Width ℕ
u64 = unsigned 10 1

abbrev pub u32 : Width ℕ
u32 = unsigned 5 15
