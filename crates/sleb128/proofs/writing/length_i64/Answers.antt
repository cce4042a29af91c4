-- `sleb128::length_i64` meets its promise: the form is the number's spelling.
use Rattle.sleb128.proofs.Forms.{form_takes}
use Rattle.sleb128.proofs.writing.length_i64.Goals as goal

pub returns : goal.returns
returns c = form_takes _ c.ranges.v c.spelled_length.ensures
