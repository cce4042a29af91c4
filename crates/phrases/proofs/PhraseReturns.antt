-- The promise of `read_phrase`, return by return.
--
--   list_too_long, not_one, list_full, list_filled   the answers
use Prim.Native.Nat.{ℕ, ◌≤◌, ◌<◌}
use mathlib.Core.Path.{◌≡◌, refl, ap, sym, ◌∙◌}
use mathlib.Core.List.{List, [], ◌++◌}
use native.Mathlib.Omega.{arith}
use lib.ListN.{length, drop, length-drop, drop_of_length-le}
use Rattle.std.specs.Option.{option_eq}
use Rattle.std.specs.List.{count_by}
use Rattle.std.proofs.Common.{Option, Some, None, Bool, true, false, not, eqb, Ok, Err}
use Rattle.std.proofs.lemmas.Bool.{eqb-true, eq-eqb}
use Rattle.words.specs.declared.Refusal.TheVariants as Why
use Rattle.lists.specs.Lists.{list_limit}
use Rattle.phrases.specs.Grammar.{Phrase, nil, cons, none, more, nesting, Good}
use Rattle.phrases.specs.Inner.{SomeAhead, Passes, found, missed, even, halves}
use Rattle.phrases.specs.Promise.{too_long, not_good, no_room, row, fills, ReadsPhrase}
use Rattle.phrases.proofs.OneReading.{one_items}
use Rattle.phrases.proofs.Halves.{good_halves}
use Rattle.phrases.proofs.HalvesLoop.{count_halves}

-- what `!=` says of a place
same_place : {r : Option ℕ} {n : ℕ} → false ≡ not (option_eq eqb r (Some n)) → r ≡ Some n
same_place {r = None} h = cc
same_place {r = Some m} {n = n} h = ap Some (eqb-true m n (not_not (eqb m n) h))
  where
    not_not : (b : Bool) → false ≡ not b → b ≡ true
    not_not true h = refl
    not_not false h = cc

other_place : {r : Option ℕ} {n : ℕ} → true ≡ not (option_eq eqb r (Some n)) → r ≡ Some n → ⊥
other_place {n = n} h e = let i = rw (e, eq-eqb n n refl) at h in cc

-- what `items` says of the whole list
module _ {s : List ℕ} where
  -- where one item ends with the list, the list is good
  whole : {r : Option ℕ} → Passes (SomeAhead nesting 1) s 0 r → r ≡ Some (length s) → (p : Phrase) × Good s p
  whole (found {to = to} h x) e = let i : to ≡ length s = cc in alone (rw (i, drop_of_length-le s {i = length s} (omega arith)) at x)
    where
      alone : SomeAhead nesting 1 s [] → (p : Phrase) × Good s p
      alone (ps, more {p = p} y none) = (p, y)
  whole (missed f) e = cc

  not_good_list : {r : Option ℕ} → Passes (SomeAhead nesting 1) s 0 r → (r ≡ Some (length s) → ⊥) → (p : Phrase) → Good s p → ⊥
  not_good_list (found {to = to} h x) n p z =
      n (ap Some (let i = ap length (one_items (more z none) x.1 refl).1 ∙ length-drop to s in omega arith))
  not_good_list (missed f) n p z = f [] (cons p nil, more z none)

module _ {s old : List ℕ} where
  pub list_too_long : list_limit < length s → ReadsPhrase s old (Err Why.TooLong) old
  list_too_long h = record { answer = row (too_long h) }

  module _ {r : Option ℕ} (x : Passes (SomeAhead nesting 1) s 0 r) (short : length s ≤ list_limit) where
    pub not_one : true ≡ not (option_eq eqb r (Some (length s))) → ReadsPhrase s old (Err Why.Tree) old
    not_one n = record { answer = row (not_good short (not_good_list x (other_place n))) }

    module _ (e : false ≡ not (option_eq eqb r (Some (length s)))) {n : ℕ} (i : n ≡ count_by even s) where
      pub list_full : length old < n → ReadsPhrase s old (Err Why.NoRoom) old
      list_full h =
          let y = whole x (same_place e) in
          record { answer = row (no_room short y.0 y.1 (omega (arith, count_halves s, ap length (good_halves y.1)))) }

      pub list_filled : {out : List ℕ} → n ≤ length old → out ≡ halves s ++ drop n old → ReadsPhrase s old (Ok (record { 0 = n })) out
      list_filled h f =
          let y = whole x (same_place e) in
          let k = good_halves y.1 in
          let j : n ≡ length (halves s) = i ∙ sym (count_halves s) in
          record { answer = rw (f, j, k) (fills short y.0 y.1 (omega (arith, ap length k))) }
