-- The loop of `slips::write`: what is laid down so far, and the words that are left.
use Rattle.std.proofs.Common.{drop}
use Rattle.words.proofs.LaysInParts.{Laying}
use Rattle.slips.specs.Slip.{body, form}
use Rattle.slips.proofs.writing.write.Given as goal

abbrev pub invariant-loop-word : goal.invariant-loop-word
invariant-loop-word l = Laying (form (l.kind, l.words)) l.fn.buffer l.fn.place.0 l.buffer l.at (body (drop l.word-index l.words))
