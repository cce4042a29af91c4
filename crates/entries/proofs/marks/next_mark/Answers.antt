-- `entries::next_mark` keeps what it promises inside the crate: `find` finds the first place that `is_mark` tells.
use Rattle.std.proofs.Common.{rules}
use Rattle.std.proofs.lemmas.Iterator.{first_from_Range}
use Rattle.entries.proofs.marks.next_mark.Goals as goal

pub returns : goal.returns
returns c = record { is = first_from_Range _ _ _ _ _ _ c.find.ensures.ran (λ at q k. search rules) (λ at q k. (search rules, search rules)) }
