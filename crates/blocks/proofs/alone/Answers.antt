-- `blocks::alone` keeps what it promises inside the crate.
use Rattle.std.specs.Prelude.{pos, negsuc, ◌-ℤ◌}
use Rattle.std.proofs.Common.{◌≡◌, ◌-◌, arith}
use Rattle.std.proofs.lemmas.Int.{ints}
use Rattle.groups.proofs.SignedWords.{above, word_back}
use Rattle.blocks.proofs.GroupReading.{one_unsigned, one_above, one_below}
use Rattle.blocks.proofs.alone.Goals as goal

pub returns-in-Unsigned : goal.returns-in-Unsigned
returns-in-Unsigned c = rw c.in-Unsigned.is (one_unsigned _ c.requires)

pub returns-then-b-lt64 : goal.returns-then-b-lt64
returns-then-b-lt64 c = let b = c.args.b in rw (c.in-Signed.is, above b (omega arith)) (one_above b c.if-b-lt64.true)

pub returns-else-b-lt64 : goal.returns-else-b-lt64
returns-else-b-lt64 c =
    let b = c.args.b in
    let e : pos b -ℤ pos 128 ≡ negsuc (127 - b) = omega (arith, ints) in
    rw (c.in-Signed.is, above b (omega arith), e, word_back (negsuc (127 - b)) (omega arith)) (one_below b c.if-b-lt64.false c.requires)
