-- `word` keeps what it promises inside the crate.
use Rattle.std.proofs.Common.{◌∙◌}
use Rattle.lists.proofs.quick.BytesStored.{loaded}
use Rattle.lists.proofs.quick.wide.word.Goals as goal

pub returns : goal.returns
returns c = let h = rw c.unwrap.ensures at c.as_array.ensures.cases in c.from_le_bytes.ensures ∙ rw h.same (loaded _ h.long)
