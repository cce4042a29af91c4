-- The recursive writer, a byte at a time: the last byte, and a byte stored in front of the rest.
--
--   last_stored    where nothing is left above them, the low seven bits stored at the place are the form stored
--   front_stored   else they are, with the high bit set, in front of the form of v div 128
--   fits_one       where a form fits, the place is within the buffer,
--   fits_rest      where something is left the form of v div 128 fits at the next place, with one byte less left,
--   fits_some      some byte is left,
--   fits_count     and where something is left the count of the rest and 1 is at most what is left
--   all_written    a form stored where it has room is laid down
use Prim.Native.Nat.{ℕ, suc, ◌+◌, ◌-◌, ◌/◌, ◌%◌, ◌≤◌, ◌<◌}
use mathlib.Core.Path.{◌≡◌, refl, ap, ◌∙◌}
use mathlib.Core.List.{List, [], ◌∷◌}
use native.Mathlib.Nat.{mod-eq_of_lt}
use native.Mathlib.Numerals.{add-one}
use native.Mathlib.Omega.{arith}
use lib.ListN.{length, set}
use lib.Seq.{sets, sets-eq, set_comm}
use Rattle.std.specs.Prelude.{Ok}
use Rattle.words.specs.Lays.{Lays}
use Rattle.words.proofs.Lays.{fits_there}
use Rattle.bits.specs.Macros.{take_low_7_bits_lem, set_high_8_bit_lem}
use Rattle.bits.proofs.HighBit.{set_seven}
use Rattle.uleb128.specs.Unsigned.{form}
use Rattle.uleb128.proofs.Forms.{form_small, form_large, form_some}
use Rattle.uleb128_rec.specs.Inner.{WritesRest, RestFits}

-- a store before a run of stores goes ahead of it
set_ahead : (g s : List ℕ) (i j b : ℕ) → i < j → set (sets s j g) i b ≡ sets (set s i b) j g
set_ahead [] s i j b h = refl
set_ahead (c ∷ g) s i j b h =
    set_ahead g (set s j c) i (suc j) b (omega arith) ∙ ap (λ (l : List ℕ). sets l (suc j) g) (set_comm s j i c b (λ e. omega arith))

module _ (v : ℕ) (s : List ℕ) (at : ℕ) where
  pub last_stored : {low : ℕ} → v / 128 < 1 → low ≡ take_low_7_bits_lem v → WritesRest v s at 1 (set s at low)
  last_stored h e =
      let f = form_small v (omega arith) in
      let same : v % 128 ≡ v = mod-eq_of_lt (omega arith) in
      record { count = rw f; leaves = rw (e, same, f) }

  front_byte : {r : ℕ} {out : List ℕ} → 128 ≤ v → WritesRest (v / 128) s (at + 1) r out
      → WritesRest v s at (r + 1) (set out at (128 + v % 128))
  front_byte {r} {out} h w =
      let f = form_large v h in
      record {
        count = rw f (add-one r ∙ ap suc w.count);
        leaves =
            rw (w.leaves, f) (set_ahead (form (v / 128)) s at (at + 1) (128 + v % 128) (omega arith)
            ∙ ap (λ (j : ℕ). sets (set s at (128 + v % 128)) j (form (v / 128))) (add-one at));
      }

  pub front_stored : {low byte r : ℕ} {out : List ℕ} → 1 ≤ v / 128 → low ≡ take_low_7_bits_lem v → byte ≡ set_high_8_bit_lem low
      → WritesRest (v / 128) s (at + 1) r out → WritesRest v s at (r + 1) (set out at byte)
  front_stored h p q w = rw (q, p, set_seven (v % 128) (omega arith)) (front_byte (omega arith) w)

  module _ (left : ℕ) (k : RestFits v s at left) where
    pub fits_one : at < length s
    fits_one = omega (arith, k.room, form_some v)

    pub fits_rest : 1 ≤ v / 128 → RestFits (v / 128) s (at + 1) (left - 1)
    fits_rest h =
        let n : length (form v) ≡ suc (length (form (v / 128))) = ap length (form_large v (omega arith)) in
        record { few = omega (arith, k.few); room = omega (arith, k.room) }

    pub fits_some : 0 < left
    fits_some = omega (arith, k.few, form_some v)

    pub fits_count : {r : ℕ} {out : List ℕ} → 1 ≤ v / 128 → WritesRest (v / 128) s (at + 1) r out → r + 1 ≤ left
    fits_count h w = omega (arith, k.few, w.count, ap length (form_large v (omega arith)))

pub all_written : (v : ℕ) (s : List ℕ) (at r : ℕ) {out : List ℕ} → at + length (form v) ≤ length s → WritesRest v s at r out
    → Lays (form v) s at (Ok (record { 0 = r })) out
all_written v s at r h w = fits_there (form v) s at (record { 0 = r }) h w.count (w.leaves ∙ sets-eq (form v) s at h)
