-- `uleb128::write_u64` meets its promise: the form is the number's spelling.
use Rattle.uleb128.proofs.Forms.{form_stored}
use Rattle.uleb128.proofs.writing.write_u64.Goals as goal

pub returns : goal.returns
returns c = form_stored _ c.store.ensures
