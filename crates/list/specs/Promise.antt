-- What this program knows of its input, in the words of listing/specs/Program.antt, whichever error E a failed read has.
--
--   means_moved    what a read answered, as a number: how many bytes it moved, or -1 where it failed
--   means_input   the input: so many bytes, or that it can't be read
--   means_next    what follows on a read: another one, behind so many bytes; or the input is known
use Rattle.std.specs.Prelude.{ℕ, ℤ, pos, negsuc, Result, Ok, Err}
use Rattle.std.specs.declared.ops.ControlFlow.{ControlFlow}
use Rattle.std.specs.declared.ops.ControlFlow.TheVariants as C
use Rattle.words.specs.declared.Count.{Count}
use Rattle.listing.specs.Program.{Known, bytes, failed, Next, more, ended}

abbrev pub means_moved : {E : Type 0} → Result ℕ E → ℤ
means_moved (Ok n) = pos n
means_moved (Err e) = negsuc 0

abbrev pub means_input : {E : Type 0} → Result Count E → Known
means_input (Ok n) = bytes n.0
means_input (Err e) = failed

abbrev pub means_next : {E : Type 0} → Result (ControlFlow Count Count) E → Next
means_next (Ok (C.Continue n)) = more n.0
means_next (Ok (C.Break n)) = ended (bytes n.0)
means_next (Err e) = ended failed
