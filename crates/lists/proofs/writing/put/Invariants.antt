-- What `lists::put`'s loop holds: `Laying`, with what is left of the number.
use Rattle.std.proofs.Common.{◌+◌}
use Rattle.words.proofs.LaysInParts.{Laying}
use Rattle.uleb128.specs.Unsigned.{form}
use Rattle.lists.proofs.writing.put.Given as goal

abbrev pub invariant-loop-i : goal.invariant-loop-i
invariant-loop-i l = Laying (form l.v) l.initial.buffer l.at l.buffer (l.at + l.i) (form l.rest)
