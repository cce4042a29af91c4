-- Adding up the lengths of a list's forms: what the loop holds, and how a list's forms begin.
--
--   forms_next          the forms from the i-th number on are its form and the forms of those behind it
--   forms_end           behind the last number there are none
--   length_next         the length of the forms from the i-th number on is that of its form and that of the forms of those behind it
--   Adding ns total i   total is the length of the forms of the first i numbers, and at most 10 bytes for each
--   none_added          at first, nothing
--   one_added           the length of the next number's form is added, if it is a number of 64 bits
--   all_added           behind the last number, total is the length of all forms
use Prim.Native.Nat.{ℕ, ◌+◌, ◌*◌, ◌^◌, ◌≤◌, ◌<◌}
use mathlib.Core.Path.{◌≡◌}
use mathlib.Core.List.{List, [], ◌++◌}
use native.Mathlib.Numerals.{add-one}
use native.Mathlib.Omega.{arith}
use lib.ListN.{length, get_or, drop, length-append}
use lib.Seq.{drop-cons, drop-length}
use Rattle.uleb128.specs.Unsigned.{form}
use Rattle.uleb128.proofs.Forms.{form_short}
use Rattle.lists.specs.Lists.{forms}

pub forms_next : (ns : List ℕ) (i : ℕ) → i < length ns → forms (drop i ns) ≡ form (get_or ns i 0) ++ forms (drop (i + 1) ns)
unfolding forms
forms_next ns i h = rw (add-one, drop-cons ns i 0 h)

pub forms_end : (ns : List ℕ) (i : ℕ) → i ≤ length ns → length ns ≤ i → forms (drop i ns) ≡ []
unfolding forms
forms_end ns i h l = let e : i ≡ length ns = omega arith in rw (e, drop-length ns)

pub length_next : (ns : List ℕ) (i : ℕ) → i < length ns
    → length (forms (drop i ns)) ≡ length (form (get_or ns i 0)) + length (forms (drop (i + 1) ns))
length_next ns i h = rw (forms_next ns i h) (length-append (form (get_or ns i 0)) (forms (drop (i + 1) ns)))

-- the lengths of the numbers passed are added up, at most 10 each
pub record Adding (ns : List ℕ) (total i : ℕ) : Type 0 where
  pub within : i ≤ length ns
  pub few : total ≤ 10 * i
  pub left : total + length (forms (drop i ns)) ≡ length (forms ns)

module _ (ns : List ℕ) where
  pub none_added : Adding ns 0 0
  none_added = record { within = omega arith; few = omega arith; left = omega arith }

  module _ {total i : ℕ} (g : Adding ns total i) where
    pub one_added : i < length ns → get_or ns i 0 < 2 ^ 64 → {n : ℕ} → n ≡ length (form (get_or ns i 0)) → Adding ns (total + n) (i + 1)
    one_added h l e =
        record {
          within = omega arith;
          few = omega (arith, g.few, form_short (get_or ns i 0) 9 (omega arith));
          left = omega (arith, g.left, length_next ns i h);
        }

    pub all_added : length ns ≤ i → total ≡ length (forms ns)
    all_added h = let z : length (forms (drop i ns)) ≡ 0 = rw (forms_end ns i g.within h) in omega (arith, g.left)
