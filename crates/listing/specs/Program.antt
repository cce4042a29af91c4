-- What the program `list` makes of what the system answers: its text, and what it says on standard error.
--
--   input_room      so much of the input is asked for: a byte more than a block may have, by which an input above the limit is seen to be so
--   Known           the input: so many bytes, or that it can't be read
--   Next            what follows on a read: another one, behind so many bytes; or the input is known
--   following n k   what follows where a read behind the first n bytes of the input has answered k: below zero it failed, and 0 is the input's end
--   text_of i s     what is written for the input i, whose bytes stand at the front of s
--   note_of i w     what is said then, w being whether all of that could be written: nothing, or one line; `limit_note`: above the limit
use Rattle.std.specs.Prelude.{ℕ, zero, suc, ◌+◌, Bool, true, false, List, [], ◌++◌, ltb, ℤ, pos, negsuc, take}
use Rattle.words.specs.Answer.{pick}
use Rattle.texts.specs.Texts.{ascii, decimal}
use Rattle.blocks.specs.Block.{block_limit}
use Rattle.listing.specs.Listing.{text}

abbrev pub input_room : ℕ
input_room = block_limit + 1

pub data Known : Type 0 where
  bytes : ℕ → Known
  failed : Known

pub data Next : Type 0 where
  more : ℕ → Next
  ended : Known → Next

abbrev pub following : ℕ → ℤ → Next
following n (negsuc k) = ended failed
following n (pos zero) = ended (bytes n)
following n (pos (suc k)) = pick (ltb (n + suc k) input_room) (more (n + suc k)) (ended (bytes (n + suc k)))

abbrev pub text_of : Known → List ℕ → List ℕ
text_of (bytes n) s = text (take n s)
text_of failed s = []

abbrev pub limit_note : List ℕ
limit_note = ascii "list: a block has at most " ++ decimal block_limit ++ ascii " bytes, and the input has more\n"

abbrev pub note_of : Known → Bool → List ℕ
note_of failed w = ascii "list: the input can't be read\n"
note_of (bytes n) false = ascii "list: the listing can't be written\n"
note_of (bytes n) true = pick (ltb block_limit n) limit_note []
