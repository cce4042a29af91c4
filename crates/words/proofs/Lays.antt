-- Laying bytes down: the two answers of every writer, what they tell, and bytes stored one behind the other.
--
--   room_none, room_left    whether there is room, from the place and from what is left behind it
--   room_full, room_there   what the test for room says
--   no_room, room_refused   the promise kept where the bytes don't fit, and where the test says so
--   fits_there              the promise kept where they fit
--   some_lays               what a writer can answer
--   sets_append             bytes stored, and more behind them
use Prim.Native.Nat.{ℕ, suc, ◌+◌, ◌-◌, ◌≤◌, ◌<◌}
use mathlib.Core.Path.{◌≡◌, refl, ap, sym, ◌∙◌}
use mathlib.Core.List.{List, [], ◌∷◌, ◌++◌}
use mathlib.Core.Bool.{Bool, true, false}
use native.Mathlib.Nat.{add-zero}
use native.Mathlib.Omega.{arith}
use borrow.Author.Tests.{le-leb, lt-leb, leb-true, leb-false}
use lib.Dec.{leb}
use lib.ListN.{length, take, drop, set}
use lib.Seq.{sets}
use Rattle.std.specs.Prelude.{Ok, Err}
use Rattle.words.specs.Answer.{gives, Written}
use Rattle.words.specs.Lays.{writing, laid, Lays}
use Rattle.words.specs.Promise.{HasRoom}
use Rattle.words.specs.declared.Count.{Count}
use Rattle.words.specs.declared.Refusal.TheVariants.{NoRoom}
use Rattle.words.proofs.Cases.{by_order}

module _ (size at n : ℕ) where
  pub room_none : size < at → HasRoom size at n false
  room_none h = record { is = sym (lt-leb (at + n) size (omega arith)) }

  pub room_left : at ≤ size → HasRoom size at n (leb n (size - at))
  room_left h =
      record {
        is =
            by_order (size - at) n (λ l. lt-leb n (size - at) l ∙ sym (lt-leb (at + n) size (omega arith)))
            (λ l. le-leb n (size - at) l ∙ sym (le-leb (at + n) size (omega arith)));
      }

module _ {size at n : ℕ} {r : Bool} (p : HasRoom size at n r) where
  pub room_full : r ≡ false → size < at + n
  room_full e = leb-false (at + n) size (sym p.is ∙ e)

  pub room_there : r ≡ true → at + n ≤ size
  room_there e = leb-true (at + n) size (sym p.is ∙ e)

module _ (bytes s : List ℕ) (at : ℕ) where
  pub no_room : length s < at + length bytes → Lays bytes s at (Err NoRoom) s
  unfolding writing laid
  no_room h =
      let t = lt-leb (at + length bytes) (length s) h in
      record { answer = rw t; leaves = rw t }

  pub room_refused : {n : ℕ} {r : Bool} → HasRoom (length s) at n r → n ≡ length bytes → r ≡ false → Lays bytes s at (Err NoRoom) s
  room_refused p e f = no_room (rw e at (room_full p f))

  pub fits_there : (n : Count) {out : List ℕ} → at + length bytes ≤ length s → n.0 ≡ length bytes
      → out ≡ take at s ++ bytes ++ drop (at + length bytes) s → Lays bytes s at (Ok n) out
  unfolding writing laid
  fits_there n {out} h e f =
      let t = le-leb (at + length bytes) (length s) h in
      record { answer = rw t (ap gives e); leaves = rw t f }

  pub some_lays : (r : Written) × (out : List ℕ) × Lays bytes s at r out
  some_lays =
      by_order (length s) (at + length bytes) (λ h. (Err NoRoom, s, no_room h))
      (λ h. (Ok (record { 0 = length bytes }), take at s ++ bytes ++ drop (at + length bytes) s, fits_there (record { 0 = length bytes }) h refl refl))

pub sets_append : (a b l : List ℕ) (i : ℕ) → sets l i (a ++ b) ≡ sets (sets l i a) (i + length a) b
sets_append [] b l i = rw (add-zero i)
sets_append (x ∷ a) b l i =
    let e : i + length (x ∷ a) ≡ suc i + length a = omega arith in rw e (sets_append a b (set l i x) (suc i))
