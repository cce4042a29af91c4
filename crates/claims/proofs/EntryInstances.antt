-- An instance for each hypothesis of the claims of entries that `met` does not already give: no claim is empty.
--
--   in_front    good_form, entry_front: in the block 80 00 01 02 03 80 00 05 the stretch 05 is replaced by nothing
--   behind      entry_back: in the block 05 06 80 00 the stretch 05 is replaced by nothing
--   given       entries_front, entries_back: of each block a reader gives some entries
--   widths      one_form: zeros are of their widths
--   written     written_back: zeros are written into a buffer of five bytes
--   unwritten   refused_unread: zeros with a turn of 401 are refused; `wide`: they are of their widths,
--   beyond      absurd_read: and their form is an entry
use Prim.Native.Nat.{ℕ, zero, suc, ◌^◌, ◌≤◌, ◌<◌}
use mathlib.Core.List.{List, [], ◌∷◌, ◌++◌}
use mathlib.Core.Logic.{inl, inr}
use mathlib.Core.Path.{refl}
use native.Mathlib.Omega.{arith}
use lib.IntN.{pos}
use Rattle.std.specs.Prelude.{Ok, Err}
use Rattle.words.specs.Lays.{writing, laid}
use Rattle.words.specs.declared.Refusal.TheVariants as Why
use Rattle.groups.specs.Form.{spell, spellings}
use Rattle.uleb128.specs.Unsigned as unsigned
use Rattle.sleb128.specs.Signed as signed
use Rattle.blocks.specs.GroupsAndTail.{GroupAt}
use Rattle.blocks.specs.Readings.{Block}
use Rattle.entries.specs.Standing.{mark, EntryAt}
use Rattle.entries.specs.Saying.{Verdict}
use Rattle.entries.specs.Promise.{entry_form, WritesEntry, absurd_turn, sensible_turn}
use Rattle.entries.specs.Given.{EntriesGiven}
use Rattle.entries.proofs.NextMarks.{mark_there, mark_high}
use Rattle.entries.proofs.AbsurdTurns.{above_absurd, not_absurd}
use Rattle.entries.proofs.InOrder.{some_given}
use Rattle.claims.specs.OfEntries.{OfWidths}
use Rattle.claims.proofs.Readers.{within_of_mag}
use Rattle.claims.proofs.EntryForms.{form_stands}

-- behind the first mark, the next stands at 5
none_between : (q : ℕ) → 2 ≤ q → q < 5 → GroupAt (0x80 ∷ 0x00 ∷ 0x01 ∷ 0x02 ∷ 0x03 ∷ 0x80 ∷ 0x00 ∷ 0x05 ∷ []) q mark → ⊥
none_between zero h l k = omega arith
none_between (suc zero) h l k = omega arith
none_between (suc (suc zero)) h l k = omega (arith, mark_high k)
none_between (suc (suc (suc zero))) h l k = omega (arith, mark_high k)
none_between (suc (suc (suc (suc zero)))) h l k = omega (arith, mark_high k)
none_between (suc (suc (suc (suc (suc q))))) h l k = omega arith

in_front : EntryAt ((0x80 ∷ 0x00 ∷ 0x01 ∷ 0x02 ∷ 0x03 ∷ 0x80 ∷ 0x00 ∷ []) ++ (0x05 ∷ []) ++ []) 0 (0x80 ∷ 0x00 ∷ 0x01 ∷ 0x02 ∷ 0x03 ∷ [])
in_front = record {
  opens = mark_there _ 0 (omega arith) refl (omega arith) (λ h. absurd (omega arith));
  there = refl;
  ends = record { from = omega arith; none_before = none_between; there = inl (mark_there _ 5 (omega arith) refl (omega arith) (λ h. omega arith)) };
}

behind : EntryAt ([] ++ (0x05 ∷ []) ++ (0x06 ∷ 0x80 ∷ 0x00 ∷ [])) 2 (0x80 ∷ 0x00 ∷ [])
behind = record {
  opens = mark_there _ 2 (omega arith) refl (omega arith) (λ h. omega arith);
  there = refl;
  ends = record { from = omega arith; none_before = λ q h l k. omega arith; there = inr refl };
}

given : (s : List ℕ) → Block s → (l : List (ℕ × ℕ × Verdict)) × EntriesGiven s 0 l
given s block = some_given block 0 (omega arith)

widths : OfWidths (record { segment = 0; sentence = 0; turn = pos 0 })
widths = record { segment = omega arith; sentence = omega arith; turn = within_of_mag (pos 0) (2 ^ 63) (omega arith) }

written : WritesEntry (record { segment = 0; sentence = 0; turn = pos 0 }) (9 ∷ 9 ∷ 9 ∷ 9 ∷ 9 ∷ []) 0 (Ok (record { 0 = 5 })) (0x80 ∷ 0x00 ∷ 0x00 ∷ 0x00 ∷ 0x00 ∷ [])
unfolding writing laid unsigned.form signed.form spell spellings
written = sensible_turn (not_absurd (pos 0) refl refl) (record { answer = refl; leaves = refl })

wide : OfWidths (record { segment = 0; sentence = 0; turn = pos 401 })
wide = record { segment = omega arith; sentence = omega arith; turn = within_of_mag (pos 401) (2 ^ 63) (omega arith) }

unwritten : WritesEntry (record { segment = 0; sentence = 0; turn = pos 401 }) (9 ∷ []) 0 (Err Why.Entry) (9 ∷ [])
unwritten = absurd_turn (above_absurd (pos 401) refl) refl refl

beyond : EntryAt (entry_form (record { segment = 0; sentence = 0; turn = pos 401 })) 0 (entry_form (record { segment = 0; sentence = 0; turn = pos 401 }))
beyond = form_stands (record { segment = 0; sentence = 0; turn = pos 401 }) wide
