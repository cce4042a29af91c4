-- `uleb128::Width::parse` keeps what it promises inside the crate: one byte below 128 is the number itself.
use borrow.Author.Tests.{leb-false}
use Rattle.std.proofs.Common.{refl, sym}
use Rattle.uleb128.proofs.Widths.{says_one}
use Rattle.uleb128.proofs.reading.Width.parse.Goals as goal

pub returns-then-not-is_high_8_bit_set : goal.returns-then-not-is_high_8_bit_set
returns-then-not-is_high_8_bit_set c =
    says_one _ _ c.args.self.wide _ _ refl c.if-at-bytes.true (leb-false _ _ (sym c.if-not-is_high_8_bit_set.ensures))
