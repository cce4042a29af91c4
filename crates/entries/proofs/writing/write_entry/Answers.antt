-- `entries::write_entry` meets its promise: an absurd turn, no room, or the entry is laid down.
use Rattle.std.specs.Int.Signed.{mag}
use Rattle.std.proofs.Common.{rules, ◌<◌, ◌^◌, arith, subst, ℤ}
use Rattle.words.proofs.Lays.{room_refused, room_there}
use Rattle.words.proofs.LaysInParts.{puts_lays}
use Rattle.groups.proofs.SignedWords.{word_back}
use Rattle.entries.specs.Inner.{Tells}
use Rattle.entries.specs.Saying.{Absurd}
use Rattle.entries.specs.Promise.{sensible_turn}
use Rattle.entries.proofs.NextMarks.{told_no}
use Rattle.entries.proofs.writing.write_entry.Goals as goal

pub returns-then-not-has_room : goal.returns-then-not-has_room
returns-then-not-has_room c =
    let h : mag c.args.entry.turn < 2 ^ 63 = omega arith in
    let told = subst (λ (v : ℤ). Tells (Absurd v) c.is_absurd.result) (word_back _ h) c.is_absurd.ensures in
    sensible_turn (told_no {t = c.is_absurd.result} told (search rules))
    (room_refused _ _ _ c.has_room.ensures c.entry_length-all.ensures.is c.if-not-has_room.true)

pub returns : goal.returns
returns c =
    let h : mag c.args.entry.turn < 2 ^ 63 = omega arith in
    let told = subst (λ (v : ℤ). Tells (Absurd v) c.is_absurd.result) (word_back _ h) c.is_absurd.ensures in
    let all = c.entry_length-all.ensures.is in
    sensible_turn (told_no {t = c.is_absurd.result} told (search rules))
    (puts_lays _ (omega (arith, room_there c.has_room.ensures c.if-not-has_room.false, all)) all c.put_entry.ensures)
