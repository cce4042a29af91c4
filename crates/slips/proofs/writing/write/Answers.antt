-- `slips::write` keeps what it promises inside the crate.
use Rattle.std.proofs.Common.{refl, arith, ◌∙◌}
use Rattle.words.proofs.Lays.{room_there, room_refused}
use Rattle.slips.proofs.Spelled.{length_body}
use Rattle.slips.proofs.WordRead.{word_spread}
use Rattle.slips.proofs.Stored.{write_good, word_fits, word_stored, all_stored}
use Rattle.slips.proofs.writing.write.Goals as goal

pub returns-then-not-has_room : goal.returns-then-not-has_room
returns-then-not-has_room c =
    write_good c.if-not-good.false (room_refused _ _ _ c.has_room.ensures (omega (arith, length_body c.args.words.now)) c.if-not-has_room.true)

pub loop-word-preserved : goal.loop-word-preserved
loop-word-preserved c =
    let h = word_fits _ _ _ _ c.loop-word.invariant (room_there c.has_room.ensures c.if-not-has_room.false) c.loop-word-test.true in
    word_stored _ _ _ _ c.loop-word.invariant c.loop-word-test.true h (c.copy_from_slice.ensures.after ∙ c.to_le_bytes.ensures ∙ word_spread _) refl

pub returns : goal.returns
returns c =
    write_good c.if-not-good.false
    (all_stored _ _ _ _ c.loop-word.invariant (room_there c.has_room.ensures c.if-not-has_room.false) c.loop-word-test.false)
