-- `sleb128::write_i64` meets its promise: the form is the number's spelling.
use Rattle.sleb128.proofs.Forms.{form_stored}
use Rattle.sleb128.proofs.writing.write_i64.Goals as goal

pub returns : goal.returns
returns c = form_stored _ c.ranges.v c.store.ensures
