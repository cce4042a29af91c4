-- `lists::list_fits` keeps what it promises inside the crate: by what it is told of the room for ten bytes each.
use Rattle.lists.proofs.LayLoop.{ample}
use Rattle.lists.proofs.writing.list_fits.Goals as goal

pub returns-then-has_room : goal.returns-then-has_room
returns-then-has_room c = rw c.if-has_room.true (ample _ (λ i. (c.type_inv.numbers i).fits) c.has_room.ensures c.if-has_room.true)
