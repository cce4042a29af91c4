-- `groups::length_unsigned` keeps what it promises inside the crate: the number's bits give its length but for one, and the growth value decides.
use Rattle.groups.proofs.Lookup.{by_bits, growth_passed, growth_not_passed}
use Rattle.groups.proofs.writing.length_unsigned.Goals as goal

pub returns-then-growth-v : goal.returns-then-growth-v
returns-then-growth-v c = growth_passed (by_bits _ c.ranges.v.fits) c.if-growth-v.true

pub returns-else-growth-v : goal.returns-else-growth-v
returns-else-growth-v c = growth_not_passed (by_bits _ c.ranges.v.fits) c.if-growth-v.false
