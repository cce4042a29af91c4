-- `lists::two` keeps what it promises inside the crate.
use Rattle.std.proofs.Common.{rules}
use Rattle.lists.proofs.quick.NumberInWord.{found_two}
use Rattle.lists.proofs.quick.wide.two.Goals as goal

pub returns : goal.returns
returns c = found_two c.args.w c.requires (search rules) (search rules)
