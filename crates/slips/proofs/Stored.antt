-- The writer's stores, and its returns for every kind.
--
--   part_there      what was copied into a part of a buffer is stored there
--   word_fits       each word that is left has room; `fitting`: so it has by the test for room
--   word_stored     with one stored, those behind it are left
--   all_stored      with none left, the slip is laid down
--   write_good      what is laid down is the answer where the setting is good
--   words_written   a setting is written as its kind and its words are; `settings`: so each is by the test of its words
use Prim.Native.Nat.{ℕ, suc, ◌+◌, ◌-◌, ◌*◌, ◌≤◌, ◌<◌}
use mathlib.Core.Bool.{Bool, true}
use mathlib.Core.List.{List, ◌++◌}
use mathlib.Core.Path.{◌≡◌, refl, sym, ap, ◌∙◌}
use native.Mathlib.Omega.{arith}
use borrow.Author.Tests.{lt-ltb}
use borrow.Rule.Slice.PartMut.{put_mid}
use lib.ListN.{length, get_or, take, drop, length-drop, drop_of_length-le}
use lib.Seq.{sets, sets-eq, drop-cons, drop-drop}
use Rattle.std.proofs.Common.{append_assoc, Ok}
use Rattle.words.specs.Lays.{Lays}
use Rattle.words.specs.Answer.{Written}
use Rattle.words.proofs.LaysInParts.{Laying, part_laid, all_laid, puts_lays}
use Rattle.words.proofs.Lays.{room_there}
use Rattle.slips.specs.Good.{good}
use Rattle.slips.specs.Slip.{measures, spread, body, form}
use Rattle.slips.specs.Promise.{means_setting, WritesSetting}
use Rattle.slips.specs.Inner.{WritesWords}
use Rattle.slips.specs.declared.Setting.{Setting}
use Rattle.slips.proofs.GoodRange.{alone, nothing_good}
use Rattle.slips.proofs.Spelled.{length_body}

part_there : (bytes s : List ℕ) (at : ℕ) {k : ℕ} → k ≡ length bytes → at + length bytes ≤ length s → put_mid at k s bytes ≡ sets s at bytes
part_there bytes s at c h =
    rw (c, drop-drop (length bytes) at s) (sym (append_assoc (take at s) bytes (drop (at + length bytes) s)) ∙ sym (sets-eq bytes s at h))

module _ (k : ℕ) (ws s : List ℕ) (at : ℕ) where
  module _ {out : List ℕ} {to : ℕ} {i : ℕ} (l : Laying (form (k, ws)) s at out to (body (drop i ws))) where
    pub word_fits : at + (1 + 4 * length ws) ≤ length s → i < length ws → to + 4 ≤ length out
    word_fits room h = omega (arith, l.kept, l.ends, length_body ws, length_body (drop i ws), length-drop i ws)

    pub word_stored : {after bytes : List ℕ} → i < length ws → to + 4 ≤ length out → bytes ≡ spread 4 (get_or ws i 0)
        → after ≡ put_mid to (to + 4 - to) out bytes → Laying (form (k, ws)) s at after (to + 4) (body (drop (i + 1) ws))
    word_stored h room e f =
        let n : suc i ≡ i + 1 = omega arith in
        part_laid l (spread 4 (get_or ws i 0)) (body (drop (i + 1) ws))
        (ap body (drop-cons ws i 0 h) ∙ ap (λ (k : ℕ). spread 4 (get_or ws i 0) ++ body (drop k ws)) n)
        (f ∙ rw e (part_there (spread 4 (get_or ws i 0)) out to (omega arith) room)) refl

    pub all_stored : at + (1 + 4 * length ws) ≤ length s → length ws ≤ i → Lays (form (k, ws)) s at (Ok (record { 0 = 1 + 4 * length ws })) out
    all_stored room h =
        puts_lays _ (omega (arith, length_body ws)) (omega (arith, length_body ws)) (all_laid l (ap body (drop_of_length-le ws h)))

module _ {k : ℕ} {ws : List ℕ} {good : Bool} {s : List ℕ} {at : ℕ} where
  pub write_good : {r : Written} {out : List ℕ} → good ≡ true → Lays (form (k, ws)) s at r out → WritesWords k ws good s at r out
  write_good e l = record { answer = rw e l.answer; leaves = rw e l.leaves }

pub words_written : (v : Setting) (s : List ℕ) (at : ℕ) {k : ℕ} {ws : List ℕ} {tested : Bool} {r : Written} {out : List ℕ}
    → means_setting v ≡ (k, ws) → k < 4 → tested ≡ good (measures k) ws → WritesWords k ws tested s at r out → WritesSetting v s at r out
words_written v s at {k} means known t p =
    let n = lt-ltb k 4 known in
    record { answer = p.answer ∙ rw (means, n, t); leaves = p.leaves ∙ rw (means, n, t) }

pub ruleset settings = (words_written, alone, nothing_good)

pub ruleset fitting = (word_fits, room_there)
