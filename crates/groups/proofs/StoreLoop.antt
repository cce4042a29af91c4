-- What the loop that stores a group holds, and that in the end the group is laid down.
--
--   Stored below n m part rest i   of the n bytes that spell m, the first i stand at the front of the part; those that are left spell rest
--   none_stored                    so it is with none stored
--   one_stored                     so it is with one more stored: what the lowest seven bits of the rest say, with the high bit set
--   all_stored                     with all but the last in the part of s, and the last one stored behind it, all are laid down
use Prim.Native.Nat.{ℕ, suc, ◌+◌, ◌-◌, ◌/◌, ◌%◌, ◌≤◌, ◌<◌}
use mathlib.Core.Path.{◌≡◌, refl, ap, sym, ◌∙◌}
use mathlib.Core.List.{List, [], ◌∷◌, ◌++◌}
use mathlib.Core.Bool.{Bool}
use native.Mathlib.Nat.{add-zero, sub-zero}
use native.Mathlib.Omega.{arith}
use borrow.Rule.Slice.PartMut.{put_mid}
use lib.ListN.{length, get_or, take, drop, set}
use lib.Seq.{paste, take-length, get_or-drop, drop-drop}
use Rattle.std.proofs.Common.{append_assoc, Ok}
use Rattle.std.proofs.lemmas.List.{take_more, take_more_set}
use Rattle.std.proofs.lemmas.List.Edits.{paste_more}
use Rattle.words.specs.Lays.{Lays}
use Rattle.words.specs.declared.Count.{Count}
use Rattle.words.proofs.Lays.{fits_there}
use Rattle.bits.specs.Macros.{take_low_7_bits_lem, set_high_8_bit_lem}
use Rattle.bits.proofs.HighBit.{set_seven}
use Rattle.groups.specs.Form.{say}
use Rattle.groups.specs.Inner.{groups}
use Rattle.groups.proofs.Spelling.{length_groups, say_below, grown}

-- all of the bytes pasted are the bytes laid down
pasted_all : (bytes s : List ℕ) (at n : ℕ) → n ≡ length bytes → paste s at bytes n ≡ take at s ++ bytes ++ drop (at + length bytes) s
pasted_all bytes s at n e = rw (e, take-length bytes)

pub record Stored (below : Bool) (n m : ℕ) (part : List ℕ) (rest i : ℕ) : Type 0 where
  pub few : i < n
  pub stored : take i part ≡ take i (groups below n m)
  pub left : drop i (groups below n m) ≡ groups below (n - i) rest

module _ (below : Bool) (n m : ℕ) where
  pub none_stored : {part : List ℕ} → 0 < n → Stored below n m part m 0
  none_stored h = record { few = h; stored = refl; left = rw (sub-zero n) }

  module _ {part : List ℕ} {rest i : ℕ} (g : Stored below n m part rest i) where
    -- the byte that stands next in the group
    next : {b : ℕ} {l : List ℕ} → groups below (n - i) rest ≡ b ∷ l → get_or (groups below n m) i 0 ≡ b
    next e = (rw add-zero at (sym (get_or-drop i (groups below n m) 0 0))) ∙ ap (λ (k : List ℕ). get_or k 0 0) (g.left ∙ e)

    pub one_stored : {bits said byte : ℕ} → i + 1 < n → i < length part → bits ≡ take_low_7_bits_lem rest → said ≡ say below bits
        → byte ≡ set_high_8_bit_lem said → Stored below n m (set part i byte) (rest / 128) (i + 1)
    one_stored {byte = byte} more there p q r =
        let k : n - i ≡ suc (n - (i + 1)) = omega arith in
        let b : byte ≡ 128 + say below (rest % 128) = rw (r, q, p) (set_seven (say below (rest % 128)) (say_below below (rest % 128) (omega arith))) in
        let e : groups below (n - i) rest ≡ byte ∷ groups below (n - (i + 1)) (rest / 128) =
        rw (k, b) (grown below (n - (i + 1)) rest (omega arith)) in
        record {
          few = more;
          stored =
              take_more_set part i byte there ∙ ap (λ (l : List ℕ). l ++ byte ∷ []) g.stored
              ∙ rw (take_more (groups below n m) i 0 (rw length_groups (omega arith)), next e);
          left = sym (drop-drop 1 i (groups below n m)) ∙ ap (drop 1) (g.left ∙ e);
        }

    last_byte : n ≡ i + 1 → groups below (n - i) rest ≡ say below (rest % 128) ∷ []
    unfolding groups
    last_byte h = let z : n - i ≡ 1 = omega arith in rw z

pub all_stored : (below : Bool) (n : Count) (m : ℕ) {part : List ℕ} {rest i : ℕ} → Stored below n.0 m part rest i
    → (s : List ℕ) (at k last : ℕ) {bits said : ℕ} → at + n.0 ≤ length s → n.0 ≡ i + 1 → k ≡ i → last ≡ at + i → length part ≡ i
    → bits ≡ take_low_7_bits_lem rest → said ≡ say below bits → Lays (groups below n.0 m) s at (Ok n) (set (put_mid at k s part) last said)
all_stored below n m {part} {rest} {i} g s at k last {bits} {said} room h e j l p q =
    let group = groups below n.0 m in
    let count : length group ≡ n.0 = length_groups below n.0 m in
    let b : get_or group i 0 ≡ said = next below n.0 m g (last_byte below n.0 m g h) ∙ rw (q, p) in
    let front : part ≡ take i group = sym (rw l at (take-length part)) ∙ g.stored in
    let pasted : put_mid at k s part ≡ paste s at group i = rw (drop-drop k at s, front, e, ← append_assoc) in
    fits_there group s at n (rw count room) (sym count)
    (rw (pasted, j, ← b) (paste_more s at group i 0 (omega arith) (rw count (omega arith))) ∙ pasted_all group s at (i + 1) (omega (arith, count)))
