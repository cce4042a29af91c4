-- `entries::put` keeps what it promises inside the crate: where there is room, `store` stores the number's form.
use Rattle.std.proofs.Common.{arith}
use Rattle.words.proofs.LaysInParts.{lays_puts, lays_ok}
use Rattle.entries.proofs.PutEntry.{stored_form}
use Rattle.entries.proofs.writing.put.Goals as goal

pub unwrap-n-requires : goal.unwrap-n-requires
unwrap-n-requires c = lays_ok c.requires (stored_form c.args.number c.store.ensures)

pub overflow_add-result : goal.overflow_add-result
overflow_add-result c = omega (arith, (lays_puts c.requires (stored_form c.args.number c.store.ensures) c.unwrap-n.ensures).behind, c.requires)

pub returns : goal.returns
returns c = lays_puts c.requires (stored_form c.args.number c.store.ensures) c.unwrap-n.ensures
