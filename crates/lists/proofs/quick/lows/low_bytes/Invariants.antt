-- What the loop of `low_bytes` holds: what is counted and what is left are all.
use Rattle.std.specs.Slice.Iter.{chunks_rest, chunks_size}
use Rattle.std.proofs.Common.{◌≡◌, ◌+◌}
use Rattle.lists.specs.InnerLeft.{lows}
use Rattle.lists.proofs.quick.lows.low_bytes.Given as goal

abbrev pub invariant-loop-part : goal.invariant-loop-part
invariant-loop-part l = (chunks_size l.part-iterator ≡ 128) × (l.n + lows (chunks_rest l.part-iterator) ≡ lows l.s)
