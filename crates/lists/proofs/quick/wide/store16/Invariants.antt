-- What the loop of `store16` holds: so many bytes are stored as the first numbers.
use Rattle.std.proofs.Common.{◌≡◌, take}
use Rattle.std.proofs.lemmas.List.Edits.{sets}
use Rattle.lists.proofs.quick.wide.store16.Given as goal

abbrev pub invariant-loop-k : goal.invariant-loop-k
invariant-loop-k l = l.numbers ≡ sets l.fn.numbers 0 (take l.k l.bytes)
