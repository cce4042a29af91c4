-- A list laid down where there is room for it: a number byte by byte, and the list number by number.
--
--   byte_put        a number of 128 or more: its first byte stored, v div 128 is left
--   last_put        one below 128: its one byte stored, all is
--   ninth_put       behind nine bytes, what is left of a number of 64 bits is below 128
--   room_next       there is room for a list's next number,
--   one_of_list     which, stored, leaves those behind it
--   all_of_list     behind the last number, all forms are laid down, with their count of bytes
--   ample           where ten bytes for each number fit, the forms do
--   list_too_long   a list of more numbers than the limit is refused by 7
--   list_laid       any other is written by laying its forms down
use Prim.Native.Nat.{ℕ, suc, ◌+◌, ◌-◌, ◌*◌, ◌/◌, ◌^◌, ◌≤◌, ◌<◌}
use mathlib.Core.Path.{◌≡◌, refl, ap, sym, ◌∙◌}
use mathlib.Core.List.{List, [], ◌∷◌}
use mathlib.Core.Bool.{Bool, true}
use native.Mathlib.Nat.{mod-eq_of_lt}
use native.Mathlib.Omega.{arith}
use borrow.Author.Tests.{lt-ltb, le-ltb, le-leb}
use lib.ListN.{length, get_or, drop, set, length-append}
use Rattle.std.specs.Prelude.{Ok, Err}
use Rattle.words.specs.Inner.{Puts}
use Rattle.words.specs.Lays.{Lays}
use Rattle.words.specs.Promise.{HasRoom}
use Rattle.words.specs.declared.Refusal.TheVariants.{TooLong}
use Rattle.words.specs.Answer.{Written}
use Rattle.words.proofs.Cases.{by_order}
use Rattle.words.proofs.Lays.{room_there}
use Rattle.words.proofs.LaysInParts.{Laying, part_laid, all_laid, rest_fits, puts_lays}
use Rattle.bits.specs.Macros.{take_low_7_bits_lem, set_high_8_bit_lem}
use Rattle.bits.proofs.HighBit.{set_seven}
use Rattle.uleb128.specs.Unsigned.{form}
use Rattle.uleb128.proofs.Forms.{form_small, form_large, form_short, form_long}
use Rattle.lists.specs.Lists.{forms, list_limit}
use Rattle.lists.specs.Promise.{WritesList}
use Rattle.lists.proofs.TotalLoop.{forms_next, forms_end, length_next}

-- a number, byte by byte
module _ (v rest : ℕ) {s : List ℕ} {at : ℕ} {out : List ℕ} {to : ℕ} (g : Laying (form v) s at out to (form rest)) where
  pub byte_put : 128 ≤ rest → {bits byte : ℕ} → bits ≡ take_low_7_bits_lem rest → byte ≡ set_high_8_bit_lem bits
      → Laying (form v) s at (set out to byte) (to + 1) (form (rest / 128))
  byte_put h p q =
      let e = q ∙ ap set_high_8_bit_lem p ∙ set_seven (take_low_7_bits_lem rest) (omega arith) in
      part_laid g (_ ∷ []) (form (rest / 128)) (form_large rest h) (ap (set out to) e) refl

  pub last_put : rest < 128 → {bits : ℕ} → bits ≡ take_low_7_bits_lem rest → Puts (form v) s at (to + 1) (set out to bits)
  last_put h p = all_laid (part_laid g (rest ∷ []) [] (form_small rest h) (ap (set out to) (p ∙ mod-eq_of_lt h)) refl) refl

  pub ninth_put : v < 2 ^ 64 → at + 9 ≤ to → rest < 128
  ninth_put f h =
      by_order rest 128 (λ l. l)
      (λ l. absurd (omega (arith, g.ends, form_short v 9 (omega arith), form_long rest 1 (omega arith))))

-- a list, number by number
module _ (ns : List ℕ) (i : ℕ) {s : List ℕ} {at : ℕ} {out : List ℕ} {to : ℕ} (g : Laying (forms ns) s at out to (forms (drop i ns))) where
  pub room_next : at + length (forms ns) ≤ length s → i < length ns → to + length (form (get_or ns i 0)) ≤ length out
  room_next r h = omega (arith, rest_fits g r, length_next ns i h)

  pub one_of_list : i < length ns → {after : List ℕ} {p : ℕ} → Puts (form (get_or ns i 0)) out to p after
      → Laying (forms ns) s at after p (forms (drop (i + 1) ns))
  one_of_list h w = part_laid g (form (get_or ns i 0)) (forms (drop (i + 1) ns)) (forms_next ns i h) w.leaves w.behind

  pub all_of_list : at + length (forms ns) ≤ length s → i ≤ length ns → length ns ≤ i → Lays (forms ns) s at (Ok (record { 0 = to - at })) out
  all_of_list r h l = let p = all_laid g (forms_end ns i h l) in puts_lays _ r (omega (arith, p.behind)) p

-- at most ten bytes for each number of 64 bits
forms_short : (ns : List ℕ) → ((i : ℕ) → get_or ns i 0 < 2 ^ 64) → length (forms ns) ≤ 10 * length ns
unfolding forms
forms_short [] h = omega arith
forms_short (v ∷ ns) h =
    let f : v < 2 ^ 64 = h 0 in
    omega (arith, length-append (form v) (forms ns), form_short v 9 (omega arith), forms_short ns (λ i. h (suc i)))

pub ample : (ns : List ℕ) → ((i : ℕ) → get_or ns i 0 < 2 ^ 64) → {size at : ℕ} {room : Bool} → HasRoom size at (10 * length ns) room
    → room ≡ true → HasRoom size at (length (forms ns)) true
ample ns h {size} {at} p e =
    record { is = sym (le-leb (at + length (forms ns)) size (omega (arith, forms_short ns h, room_there p e))) }

module _ (ns s : List ℕ) (at : ℕ) where
  pub list_too_long : list_limit < length ns → WritesList ns s at (Err TooLong) s
  list_too_long h = let t = lt-ltb list_limit (length ns) h in record { answer = rw t; leaves = rw t }

  pub list_laid : {r : Written} {out : List ℕ} → length ns ≤ list_limit → Lays (forms ns) s at r out → WritesList ns s at r out
  list_laid h l = let t = le-ltb list_limit (length ns) h in record { answer = rw t l.answer; leaves = rw t l.leaves }
