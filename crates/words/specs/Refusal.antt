-- Document 01, "When the number desk refuses", and what document 02 adds (9, #101; 10, #102; 11, #104; 13, #110): the number of each refusal.
--
--   number_of   the number of a refusal
use Rattle.std.specs.Prelude.{ℕ}
use Rattle.words.specs.declared.Refusal.{Refusal}
use Rattle.words.specs.declared.Refusal.TheVariants.{End, Overflow, NotShortest, Place, NoRoom, NotAStart, TooLong, NoStart, Thread, Entry, Slip, Tree}

abbrev pub number_of : Refusal → ℕ
number_of End = 1
number_of Overflow = 2
number_of NotShortest = 3
number_of Place = 4
number_of NoRoom = 5
number_of NotAStart = 6
number_of TooLong = 7
number_of NoStart = 8
number_of Thread = 9
number_of Entry = 10
number_of Slip = 11
number_of Tree = 13
