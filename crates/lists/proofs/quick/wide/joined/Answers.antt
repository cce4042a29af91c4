-- `lists::joined` keeps what it promises inside the crate.
use Rattle.std.proofs.Common.{◌∙◌}
use Rattle.lists.proofs.quick.NumberInWord.{lows_below, lows_digits}
use Rattle.lists.proofs.quick.wide.joined.Goals as goal

pub join-requires : goal.join-requires
join-requires c = lows_below c.args.w c.low_digits.ensures

pub returns : goal.returns
returns c = c.join.ensures ∙ lows_digits c.args.w c.low_digits.ensures
