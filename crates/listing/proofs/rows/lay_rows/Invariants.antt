-- The loop of `listing::lay_rows` holds `LaidLeft`; how many bytes of the block are left falls.
use Rattle.std.proofs.Common.{length, ◌-◌}
use Rattle.listing.proofs.Laid.{LaidLeft}
use Rattle.listing.proofs.rows.lay_rows.Given as goal

abbrev pub invariant-loop-what : goal.invariant-loop-what
invariant-loop-what l = LaidLeft l.block l.initial.text l.at l.text

abbrev pub decreases-loop-what : goal.decreases-loop-what
decreases-loop-what l = length l.block - l.at
