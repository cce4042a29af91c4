-- `entries::put_u64` keeps what it promises inside the crate: one byte below 128, else what `put` stores.
use Rattle.std.proofs.Common.{arith}
use Rattle.uleb128.proofs.Forms.{form_some}
use Rattle.entries.proofs.PutEntry.{small_put}
use Rattle.entries.proofs.writing.put_u64.Goals as goal

pub bounds-buffer-at : goal.bounds-buffer-at
bounds-buffer-at c = omega (arith, c.requires, form_some c.args.v)

pub returns-then-v-lt-ONE_BYTE : goal.returns-then-v-lt-ONE_BYTE
returns-then-v-lt-ONE_BYTE c = small_put _ _ _ c.if-v-lt-ONE_BYTE.true c.take_low_7_bits.ensures
