-- `groups::lay` keeps what it promises inside the crate: the loop holds `Stored`.
use Rattle.groups.proofs.StoreLoop.{Stored}
use Rattle.groups.proofs.writing.lay.Given as goal

abbrev pub invariant-loop-byte : goal.invariant-loop-byte
invariant-loop-byte l = Stored l.below l.count.0 l.m l.byte-items l.rest l.byte-index
