-- `uleb128::length_u64` meets its promise: one byte below 128, and else, since the form is the number's spelling, what that takes.
use Rattle.groups.proofs.Lookup.{one_byte}
use Rattle.uleb128.proofs.Forms.{form_takes}
use Rattle.uleb128.proofs.writing.length_u64.Goals as goal

pub returns-then-v-lt-ONE_BYTE : goal.returns-then-v-lt-ONE_BYTE
returns-then-v-lt-ONE_BYTE c = form_takes _ (one_byte _ c.if-v-lt-ONE_BYTE.true)

pub returns : goal.returns
returns c = form_takes _ c.spelled_length.ensures
