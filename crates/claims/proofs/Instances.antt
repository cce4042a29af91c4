-- An instance for each hypothesis of the claims that `met` does not already give: no claim is empty. Those of slips are in SlipInstances.antt, those of
-- phrases in PhraseInstances.antt, those of entries in EntryInstances.antt.
--
--   written, read_back   write_read, read_write, more_behind, some_byte: zero is written into a buffer of one byte, and read there
--   one_too_many         decides: the bytes 80 00 are refused by 3, decided by the byte at 1
--   list                 list_back: a list of one number is written
--   group                read_group: a group
--   before, behind       damage_front, damage_back: in the block 05 80 07 03 the stretch 80 is replaced by nothing
--   gap_behind           gap_within, damage_back_gap: in the block 05 80 07 80 00 a gap stands at place 3, decided by its last byte, at place 4
--   old, new             both are blocks, so that damage_front_read and damage_back_read speak of them
--   set_down, lost       reader_set_down, front_lost: at place 1 of 05 06, and of 05 06 07 whose first byte is lost
--   no_start, no_byte    and where set-down refuses: 05 80 and 05, whose first byte is lost
use Prim.Native.Nat.{ℕ, zero, suc, ◌+◌, ◌<◌}
use mathlib.Core.Path.{◌≡◌, refl}
use mathlib.Core.List.{List, [], ◌∷◌, ◌++◌}
use mathlib.Core.Logic.{inr}
use native.Mathlib.Omega.{arith}
use lib.ListN.{length, drop}
use Rattle.std.specs.Prelude.{Ok, Err}
use Rattle.words.specs.Answer.{gives, refused, because_at}
use Rattle.words.specs.Lays.{writing, laid}
use Rattle.words.specs.declared.Count.{Count}
use Rattle.words.specs.declared.Refusal.TheVariants.{NotShortest, Place, NoStart}
use Rattle.groups.specs.Form.{spell, spellings}
use Rattle.groups.specs.Group.{Bytes, Group, one, run, digits}
use Rattle.groups.specs.Width.{runs_out, is_too_large, is_too_many, reading, read}
use Rattle.uleb128.specs.Unsigned as unsigned
use Rattle.sleb128.specs.Signed as signed
use Rattle.blocks.specs.Block.{is_start_lem, stepping, setting_down}
use Rattle.blocks.specs.Promise.{Steps, SetsDown}
use Rattle.blocks.specs.GroupsAndTail.{GroupAt}
use Rattle.blocks.specs.Readings.{Block}
use Rattle.blocks.specs.declared.Cursor.{Cursor}
use Rattle.blocks.specs.declared.Rule.TheVariants.{Unsigned}
use Rattle.blocks.specs.declared.Step.TheVariants as S
use Rattle.blocks.proofs.FromStart.{front_start}
use Rattle.lists.specs.Lists.{forms}
use Rattle.lists.specs.Promise.{WritesList}
use Rattle.claims.specs.Kinds.{Kind, loop64, recursive64, unsigned32, signed64, number, refuse, ReadsAs, width, WritesAs}
use Rattle.claims.specs.OfNumbers.{zero_of}
use Rattle.claims.proofs.Readers.{number_says, refusal_says}

abbrev count : ℕ → Count
count n = record { 0 = n }

abbrev cursor : ℕ → Cursor
cursor p = record { place = record { 0 = p } }

module _ where
  written : (k : Kind) → WritesAs k (zero_of k) (1 ∷ []) 0 (Ok (count 1)) (0 ∷ [])
  unfolding unsigned.form signed.form spell spellings writing laid
  written loop64 = record { answer = refl; leaves = refl }
  written recursive64 = record { answer = refl; leaves = refl }
  written unsigned32 = record { answer = refl; leaves = refl }
  written signed64 = record { answer = refl; leaves = refl }

  reads_zero : (k : Kind) → read (width k) (0 ∷ []) 0 ≡ gives (zero_of k, 1)
  unfolding read reading runs_out is_too_large is_too_many run digits signed.twos
  reads_zero loop64 = refl
  reads_zero recursive64 = refl
  reads_zero unsigned32 = refl
  reads_zero signed64 = refl

  read_back : (k : Kind) → ReadsAs k (0 ∷ []) 0 (number k (zero_of k) (count 1))
  read_back k = (number_says k (0 ∷ []) 0 (zero_of k) (count 1)).1 (reads_zero k)

  reads_one_too_many : (k : Kind) → read (width k) (0x80 ∷ 0 ∷ []) 0 ≡ refused (because_at NotShortest 1)
  unfolding read reading runs_out is_too_large is_too_many run
  reads_one_too_many loop64 = refl
  reads_one_too_many recursive64 = refl
  reads_one_too_many unsigned32 = refl
  reads_one_too_many signed64 = refl

  one_too_many : (k : Kind) → ReadsAs k (0x80 ∷ 0 ∷ []) 0 (refuse k NotShortest (record { 0 = 1 }))
  one_too_many k = (refusal_says k (0x80 ∷ 0 ∷ []) 0 NotShortest (record { 0 = 1 })).1 (reads_one_too_many k)

  list : WritesList (0 ∷ []) (1 ∷ []) 0 (Ok (count 1)) (0 ∷ [])
  unfolding forms unsigned.form spell spellings writing laid
  list = record { answer = refl; leaves = refl }

  group : Group (3 ∷ [])
  group = one {b = 3} (omega arith)

-- a = 05, x = 80, y nothing, b = 07 03: behind the first byte below 128 past the stretch stands 03, at place 3 and then at 2
abbrev a : List ℕ
a = 5 ∷ []

abbrev x : List ℕ
x = 0x80 ∷ []

abbrev b : List ℕ
b = 7 ∷ 3 ∷ []

module _ where
  before : GroupAt (a ++ x ++ b) 0 (5 ∷ [])
  before = record { start = front_start (a ++ x ++ b); is_group = one {b = 5} (omega arith); there = refl }

  behind : (length (a ++ x) + run b < 3) × GroupAt (a ++ x ++ b) 3 (3 ∷ [])
  unfolding run
  behind = (omega arith, record { start = record { here = omega arith; behind = inr (omega arith, omega arith) }; is_group = group; there = refl })

  gap_behind : (length (a ++ x) + run (7 ∷ 0x80 ∷ 0 ∷ []) < 3)
      × Steps Unsigned (a ++ x ++ 7 ∷ 0x80 ∷ 0 ∷ []) 3 (Ok (S.Gap (record { 0 = NotShortest; 1 = (record { 0 = 4 }) }) (count 2) (cursor 5)))
  unfolding stepping is_start_lem run reading runs_out is_too_large is_too_many
  gap_behind = (omega arith, record { is = refl })

  small : (s : List ℕ) → Bytes s → length s < 5 → Block s
  small s bytes h = record { bytes = bytes; short = omega arith }

  old : Block (a ++ x ++ b)
  old = small (a ++ x ++ b) bytes (omega arith)
    where
      bytes : Bytes (a ++ x ++ b)
      bytes zero = omega arith
      bytes (suc zero) = omega arith
      bytes (suc (suc zero)) = omega arith
      bytes (suc (suc (suc zero))) = omega arith
      bytes (suc (suc (suc (suc i)))) = omega arith

  new : Block (a ++ [] ++ b)
  new = small (a ++ [] ++ b) bytes (omega arith)
    where
      bytes : Bytes (a ++ [] ++ b)
      bytes zero = omega arith
      bytes (suc zero) = omega arith
      bytes (suc (suc zero)) = omega arith
      bytes (suc (suc (suc i))) = omega arith

module _ where
  set_down : SetsDown (5 ∷ 6 ∷ []) 1 (Ok (cursor 1))
  unfolding setting_down run
  set_down = record { is = refl }

  lost : SetsDown (drop 1 (5 ∷ 6 ∷ 7 ∷ [])) 1 (Ok (cursor 1))
  unfolding setting_down run
  lost = record { is = refl }

  no_start : SetsDown (drop 1 (5 ∷ 0x80 ∷ [])) 1 (Err NoStart)
  unfolding setting_down run
  no_start = record { is = refl }

  no_byte : SetsDown (drop 1 (5 ∷ [])) 1 (Err Place)
  unfolding setting_down run
  no_byte = record { is = refl }
