-- Bytes to try as entries, judged.
--
--   front           a byte below 128 in front of other bytes is a group, and those behind it say the rest
--   says_turn       behind 01 02, a group that reads as a turn completes the numbers of an entry
--   passes, fails   a turn of two bytes makes it good, or bad
--   entry_tries     the table
use Prim.Native.Nat.{ℕ, zero, suc, ◌≤◌, ◌<◌}
use mathlib.Core.List.{List, [], ◌∷◌, append-nil}
use mathlib.Core.Path.{◌≡◌, refl, sym}
use native.Mathlib.Omega.{arith}
use lib.IntN.{ℤ, pos, negsuc}
use Rattle.words.specs.Answer.{gives}
use Rattle.groups.specs.Group.{Group, one, more, run, digits}
use Rattle.groups.specs.Width.{runs_out, is_too_large, is_too_many, reading}
use Rattle.sleb128.specs.Signed.{twos}
use Rattle.blocks.specs.Block.{Val, unsigned, signed, read_by}
use Rattle.blocks.specs.GroupsAndTail.{GroupAt}
use Rattle.blocks.specs.declared.Rule.TheVariants.{Signed}
use Rattle.blocks.proofs.GroupReading.{one_unsigned, one_below}
use Rattle.entries.specs.Standing.{mark}
use Rattle.entries.specs.Saying.{Field, fields, Says, nothing, field, Absurd, good, bad, Judged, is_good, is_bad}
use Rattle.entries.proofs.NextMarks.{mark_inside, mark_high, mark_start}
use Rattle.entries.proofs.AbsurdTurns.{above_absurd, below_absurd, not_absurd}
use Rattle.entries.proofs.SaysGroups.{SaidBehind, behind_said, has_group, absurd_said}
use Rattle.claims.specs.OfEntries.{EntryTries}

front : {f : Field} {fs : List Field} {b : ℕ} {l rest : List ℕ} {vs : List Val} → b < 128 → Says (f ∷ fs) (b ∷ l) vs rest → SaidBehind f fs (b ∷ []) l vs rest
front h x = behind_said (one h) refl x

longer : {b : ℕ} {l : List ℕ} {vs : List Val} → Says [] (b ∷ l) vs [] → ⊥
longer x = elim x [ ]

-- bytes behind the third group
more_bad : (b : ℕ) → Judged (0x01 ∷ 0x02 ∷ 0x7f ∷ b ∷ []) bad
more_bad b = is_bad (λ x g. longer (front (omega arith) (front (omega arith) (front (omega arith) g.says).says).says).says)

says_turn : {g : List ℕ} (t : ℤ) → Group g → read_by Signed g ≡ gives (signed t) → Says fields (0x01 ∷ 0x02 ∷ g) (unsigned 1 ∷ unsigned 2 ∷ signed t ∷ []) []
says_turn {g} t r e =
    field (one {b = 1} (omega arith)) (sym (one_unsigned 1 (omega arith)))
    (field (one {b = 2} (omega arith)) (sym (one_unsigned 2 (omega arith))) (field r e nothing (sym (append-nil g))) refl) refl

-- a law of its own, so that a wrong turn is refused as one that differs
three_groups : Judged (0x01 ∷ 0x02 ∷ 0x7f ∷ []) (good (record { segment = 1; sentence = 2; turn = negsuc 0 }))
three_groups = is_good (record { says = says_turn (negsuc 0) (one (omega arith)) (sym (one_below 127 (omega arith) (omega arith))); sensible = not_absurd (negsuc 0) refl refl })

-- 400, 401, -400 and -401
turns_read : (read_by Signed (0x90 ∷ 0x03 ∷ []) ≡ gives (signed (pos 400))) × (read_by Signed (0x91 ∷ 0x03 ∷ []) ≡ gives (signed (pos 401)))
    × (read_by Signed (0xf0 ∷ 0x7c ∷ []) ≡ gives (signed (negsuc 399))) × (read_by Signed (0xef ∷ 0x7c ∷ []) ≡ gives (signed (negsuc 400)))
unfolding reading runs_out run is_too_large is_too_many digits twos
turns_read = (refl, refl, refl, refl)

-- a turn of two bytes
module _ {b c : ℕ} (t : ℤ) (high : 128 ≤ b) (byte : b < 256) (low : c < 128) (e : read_by Signed (b ∷ c ∷ []) ≡ gives (signed t)) where
  passes : (Absurd t → ⊥) → Judged (0x01 ∷ 0x02 ∷ b ∷ c ∷ []) (good (record { segment = 1; sentence = 2; turn = t }))
  passes h = is_good (record { says = says_turn t (more high byte (one low)) e; sensible = h })

  fails : Absurd t → Judged (0x01 ∷ 0x02 ∷ b ∷ c ∷ []) bad
  fails h = is_bad (λ y g. absurd_said {x = record { segment = 1; sentence = 2; turn = t }} (says_turn t (more high byte (one low)) e) h y [] g)

in_a_longer_group : (q : ℕ) → GroupAt (0x81 ∷ 0x80 ∷ 0x00 ∷ []) q mark → ⊥
in_a_longer_group zero k = omega (arith, mark_high k)
in_a_longer_group (suc zero) k = omega (arith, mark_start k (omega arith))
in_a_longer_group (suc (suc q)) k = omega (arith, mark_inside k)

pub entry_tries : EntryTries
entry_tries = record {
  three_groups = three_groups;
  with_a_tail = more_bad 0x80;
  with_a_fourth = more_bad 0x03;
  without_the_third = is_bad (λ x g. omega (arith, has_group (front (omega arith) (front (omega arith) g.says).says).says));
  turn_of_400 = passes (pos 400) (omega arith) (omega arith) (omega arith) turns_read.0 (not_absurd (pos 400) refl refl);
  turn_of_401 = fails (pos 401) (omega arith) (omega arith) (omega arith) turns_read.1 (above_absurd (pos 401) refl);
  turn_of_minus_400 = passes (negsuc 399) (omega arith) (omega arith) (omega arith) turns_read.2 (not_absurd (negsuc 399) refl refl);
  turn_of_minus_401 = fails (negsuc 400) (omega arith) (omega arith) (omega arith) turns_read.3 (below_absurd (negsuc 400) refl);
  in_a_longer_group = in_a_longer_group;
}
