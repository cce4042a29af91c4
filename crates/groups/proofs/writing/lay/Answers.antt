-- `groups::lay` keeps what it promises inside the crate: each way out is a law of `StoreLoop`.
use Rattle.std.proofs.Common.{◌≡◌, ℕ, ◌+◌, sym, arith, length-drop}
use Rattle.std.proofs.lemmas.List.{length-take}
use Rattle.words.proofs.Lays.{room_refused, room_there}
use Rattle.groups.proofs.Spelling.{length_groups}
use Rattle.groups.proofs.StoreLoop.{one_stored, all_stored}
use Rattle.groups.proofs.writing.lay.Goals as goal

pub returns-then-not-has_room : goal.returns-then-not-has_room
returns-then-not-has_room c = room_refused _ _ _ c.has_room.ensures (sym (length_groups _ _ _)) c.if-not-has_room.true

pub loop-byte-preserved : goal.loop-byte-preserved
loop-byte-preserved c =
    one_stored _ _ _ c.loop-byte.invariant (omega (arith, length-take {A = ℕ})) (omega arith) c.take_low_7_bits.ensures c.said.ensures c.set_high_8_bit.ensures

pub returns : goal.returns
returns c =
    let room = room_there c.has_room.ensures c.if-not-has_room.false in
    let most : c.args.count.0 ≡ c.loop-byte.byte-index + 1 = omega (arith, length-take {A = ℕ}, length-drop {A = ℕ}) in
    all_stored _ _ _ c.loop-byte.invariant _ _ _ _ room most (omega arith) (omega arith) (omega (arith, length-take {A = ℕ}, length-drop {A = ℕ}))
    c.take_low_7_bits-2.ensures c.said-2.ensures
