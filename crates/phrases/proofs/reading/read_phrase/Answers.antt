-- `read_phrase` meets its promise, a law for each return.
use Rattle.std.proofs.Common.{rules, refl}
use Rattle.phrases.proofs.PhraseReturns.{list_too_long, not_one, list_full, list_filled}
use Rattle.phrases.proofs.reading.read_phrase.Goals as goal

pub returns-then-numbers-gt-LIST_LIMIT : goal.returns-then-numbers-gt-LIST_LIMIT
returns-then-numbers-gt-LIST_LIMIT c = list_too_long (search rules)

pub returns-then-ne : goal.returns-then-ne
returns-then-ne c = not_one c.items.ensures (search rules) c.if-ne.ensures

pub returns-then-sentences-count : goal.returns-then-sentences-count
returns-then-sentences-count c = list_full c.items.ensures (search rules) c.if-ne.ensures c.leaves-count.ensures (search rules)

pub returns : goal.returns
returns c = list_filled c.items.ensures (search rules) c.if-ne.ensures c.leaves-count.ensures (search rules) (rw c.fill.ensures refl)
