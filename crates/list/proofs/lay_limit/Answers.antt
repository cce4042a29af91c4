-- `list::lay_limit` keeps what it promises: the parts of the line, one behind the other.
use Rattle.texts.proofs.LaysText.{joined}
use Rattle.list.proofs.lay_limit.Goals as goal

pub returns : goal.returns
returns c = joined (joined c.word.ensures c.decimal.ensures) c.word-2.ensures
