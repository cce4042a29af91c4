-- Unsigned widths: their rules are those of spelling, and what a walk's answer then says at a width. A high byte is 128 or more.
--
--   sound, spells   an unsigned width is sound, and its rules are those of spelling unsigned numbers
--   says_one        a byte below 128: itself, and the count 1
--   says_past       a place past the end: refusal 4, decided by that place
--   says_end        only high bytes, fewer than the most: refusal 1, decided by the end of the bytes
--   says_overrun    as many high bytes as the most: refusal 2, decided by the byte at the greatest length
--   large_there     a group that is too large has a byte at the greatest length,
--   says_large      and is refused by 2, decided by that byte
--   not_large       one that isn't: it is within the greatest length, and at that length its last byte is at most top
--   says_many       a last byte 0 that isn't the first, within the greatest length: refusal 3, decided by that byte
--   says_number     any other group within it: its number and count
--   number_fits     that number fits 64 bits
use Prim.Native.Nat.{ℕ, ◌+◌, ◌-◌, ◌*◌, ◌^◌, ◌≤◌, ◌<◌}
use mathlib.Core.Path.{◌≡◌, refl, sym, ◌∙◌}
use mathlib.Core.List.{List}
use mathlib.Core.Bool.{Bool, true, false}
use native.Mathlib.Nat.{pos_of_ne-zero}
use native.Mathlib.Omega.{arith}
use borrow.Author.Tests.{lt-ltb, le-ltb, le-leb, lt-leb, eq-eqb, ne_eqb, ltb-true, ltb-false, eqb-false}
use lib.Dec.{ltb}
use lib.ListN.{length, get_or, drop}
use Rattle.words.specs.Answer.{pick, either, gives, refused, by_at}
use Rattle.words.proofs.Cases.{by_order, clash}
use Rattle.words.proofs.Moved.{same_place}
use Rattle.groups.specs.Group.{run}
use Rattle.groups.specs.Width.{Reads}
use Rattle.groups.proofs.Rows.{read_past, due_kept}
use Rattle.groups.proofs.FromWalk.{Sound, Opening, Closing, closed_large, closed_many, closed_number, closed_digits, closed_limit, overrun_large, open_end}
use Rattle.groups.proofs.OneByte.{digits_one, read_one}
use Rattle.groups.proofs.Exact.{Spells}
use Rattle.uleb128.specs.Unsigned.{unsigned}
use Rattle.uleb128.specs.Inner.{Wide}

pub sound : (most top : ℕ) → 0 < most → top < 128 → Sound (unsigned most top)
sound most top h l = record { some = h; low = λ b hi. lt-leb b top (omega arith) }

pub spells : (most top : ℕ) → 0 < most → top < 128 → Spells (unsigned most top) false 128 top
spells most top h l =
    record {
      sound = sound most top h l;
      some = omega arith;
      low = omega arith;
      under = l;
      allowed = λ b p q. refl;
      needed = λ before b p q. (
        λ e. let n : 0 < b = pos_of_ne-zero (eqb-false b 0 e) in omega arith,
        λ e. ne_eqb b 0 (λ z. omega arith),
      );
    }

-- what an answer says, by what the walk told
module _ (most top : ℕ) (wide : Wide most top) (s : List ℕ) (at : ℕ) where
  wide_sound : Sound (unsigned most top)
  wide_sound = sound most top (omega (arith, wide.some)) wide.low

  pub says_one : {b : ℕ} → b ≡ get_or s at 0 → at < length s → b < 128 → Reads (unsigned most top) s at (gives (b, 1))
  says_one {b} e there low = due_kept (read_one (unsigned most top) wide.some s at e there low ∙ rw (digits_one b low))

  pub says_past : length s < at → Reads (unsigned most top) s at (refused (by_at 4 at))
  says_past h = due_kept (read_past (unsigned most top) s at h)

  pub says_end : {high : ℕ} → Opening s at high → high < most → Reads (unsigned most top) s at (refused (by_at 1 (length s)))
  says_end o h = due_kept (open_end (unsigned most top) wide_sound s at o h)

  pub says_overrun : at ≤ length s → most ≤ run (drop at s) → Reads (unsigned most top) s at (refused (by_at 2 (at + (most - 1))))
  says_overrun h m = due_kept (overrun_large (unsigned most top) wide_sound s at h m)

  module _ {sum weight high last : ℕ} (c : Closing s at sum weight high last) where
    -- by what `too_large` answers
    module _ {r : Bool} (told : r ≡ pick (ltb (high + 1) most) false (either (ltb most (high + 1)) (ltb top last))) where
      pub large_there : r ≡ true → most ≤ high + 1
      large_there e = by_order (high + 1) most (λ l. clash (told ∙ rw (lt-ltb (high + 1) most l)) e) (λ l. l)

      pub says_large : r ≡ true → Reads (unsigned most top) s at (refused (by_at 2 (at + (most - 1))))
      says_large e =
          by_order most (high + 1) (λ m. says_overrun c.here (omega (arith, c.many)))
          (λ m.
          let l = large_there e in
          let t : ltb top last ≡ true = rw (le-ltb (high + 1) most l, le-ltb most (high + 1) m) at (sym told ∙ e) in
          due_kept
          (closed_large (unsigned most top) wide_sound s at c (omega arith) (lt-leb last top (ltb-true top last t)) ∙ same_place (omega arith)))

      pub not_large : r ≡ false → (high < most) × (high + 1 ≡ most → last ≤ top)
      not_large e =
          by_order (high + 1) most (λ l. (omega arith, λ q. absurd (omega arith)))
          (λ l. by_order most (high + 1) (λ m. clash e (told ∙ rw (le-ltb (high + 1) most l, lt-ltb most (high + 1) m)))
          (λ m.
          let t : ltb top last ≡ false = rw (le-ltb (high + 1) most l, le-ltb most (high + 1) m) at (sym told ∙ e) in
          (omega arith, λ q. ltb-false top last t)))

    pub says_many : high < most → 0 < high → last < 1 → Reads (unsigned most top) s at (refused (by_at 3 (at + high)))
    says_many m h z =
        due_kept
        (closed_many (unsigned most top) wide_sound s at c (omega arith) (λ e. le-leb last top (omega arith)) h (eq-eqb last 0 (omega arith)))

    module _ (m : high < most) (l : high + 1 ≡ most → last ≤ top) where
      pub says_number : (0 < high → 0 < last) → Reads (unsigned most top) s at (gives (sum + weight * last, high + 1))
      says_number n =
          due_kept
          (closed_number (unsigned most top) wide_sound s at c (omega arith) (λ e. le-leb last top (l e))
          (λ h. ne_eqb last 0 (λ z. omega (arith, n h)))
          ∙ rw (closed_digits c))

      pub number_fits : sum + weight * last < 2 ^ 64
      number_fits = omega (arith, wide.fits, closed_limit c (most - 1) top (omega arith) (λ e. l (omega (arith, wide.some))))
