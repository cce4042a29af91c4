-- `uleb128_rec::write_u64_rec` meets its promise: the room is known before `write_rest` stores the form.
use Rattle.std.proofs.Common.{arith}
use Rattle.words.proofs.Lays.{room_refused, room_there}
use Rattle.uleb128_rec.proofs.BytesStored.{all_written}
use Rattle.uleb128_rec.proofs.writing.write_u64_rec.Goals as goal

pub returns-then-not-has_room : goal.returns-then-not-has_room
returns-then-not-has_room c = room_refused _ _ _ c.has_room.ensures c.length_u64-needed.ensures.is c.if-not-has_room.true

pub returns : goal.returns
returns c =
    let room = room_there c.has_room.ensures c.if-not-has_room.false in
    all_written _ _ _ _ (omega (arith, c.length_u64-needed.ensures.is)) c.write_rest-count.ensures
