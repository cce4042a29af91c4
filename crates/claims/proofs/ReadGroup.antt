-- A group read alone: it is the shortest form of its number, or a gap.
--
--   from_front    reading a list is reading from its place 0
--   empty         a list of length 0 is the empty one
--   group_bytes   a group is bytes
--   read_group    a group is read as a number exactly when it is its shortest form, and refused exactly by the row, 2 or 3, that holds, decided by
--                 that byte of the group
use Prim.Native.Nat.{ℕ, zero, suc, ◌+◌}
use mathlib.Core.Path.{◌≡◌, refl, ap, sym, ◌∙◌}
use mathlib.Core.List.{List, [], ◌∷◌, ◌++◌, append-nil}
use native.Mathlib.Omega.{arith}
use borrow.Author.Tests.{le-ltb}
use lib.ListN.{length, length-append}
use Rattle.words.specs.Answer.{gives}
use Rattle.words.specs.declared.Refusal.{Refusal}
use Rattle.words.proofs.Moved.{moved_none}
use Rattle.groups.specs.Group.{Bytes, Group, one, more, run}
use Rattle.groups.specs.Width.{Width, reading, read}
use Rattle.groups.proofs.Exact.{group_length}
use Rattle.groups.proofs.Run.{high_full}
use Rattle.groups.proofs.Stands.{run_behind}
use Rattle.claims.specs.Kinds.{Kind, Value, width, form, OfWidth}
use Rattle.claims.specs.Table.{NotShortestRow, Row, GapRow}
use Rattle.claims.specs.OfBlocks.{ReadGroup}
use Rattle.claims.proofs.Readers.{reading_of, read_row}
use Rattle.claims.proofs.TableRows.{row_refused}

pub from_front : {A : Type 0} (w : Width A) (s : List ℕ) → read w s 0 ≡ reading w s
unfolding read
from_front w s = rw (le-ltb (length s) 0 (omega arith)) (moved_none (reading w s))

pub empty : (s : List ℕ) → length s ≡ 0 → s ≡ []
empty [] e = refl
empty (b ∷ s) e = absurd (omega arith)

pub group_bytes : {g : List ℕ} → Group g → Bytes g
group_bytes (one h) zero = omega arith
group_bytes (one h) (suc i) = omega arith
group_bytes (more h b k) zero = b
group_bytes (more h b k) (suc i) = group_bytes k i

module _ (k : Kind) (g : List ℕ) where
  is_form : (v : Value k) → Group g → reading (width k) g ≡ gives (v, length g) → OfWidth k v × (g ≡ form k v)
  is_form v group e =
      let b = (reading_of k).begins g 0 v (length g) (group_bytes group) (from_front (width k) g ∙ e) in
      let l : length g ≡ length (form k v) + length b.rest = ap length b.begins ∙ length-append (form k v) b.rest in
      let none : b.rest ≡ [] = empty b.rest (omega (arith, b.count)) in
      (b.of_width, b.begins ∙ ap (λ (t : List ℕ). form k v ++ t) none ∙ append-nil (form k v))

  form_is : (v : Value k) → OfWidth k v → g ≡ form k v → reading (width k) g ≡ gives (v, length g)
  form_is v h e =
      sym (from_front (width k) g) ∙ (reading_of k).begun g 0 v (length g) (record {
        here = omega arith;
        of_width = h;
        rest = [];
        begins = e ∙ sym (append-nil (form k v));
        count = ap length e;
      })

  -- a group that a group begins with is all of it
  whole : Group g → (row : NotShortestRow (width k) g) → length row.group ≡ length g
  whole group row = omega (arith, group_length group, group_length row.is_group, run_behind row.rest row.is_group, ap run row.ends)

  gap_row : (why : Refusal) (j : ℕ) → Group g → Row (width k) g 0 j why → GapRow (width k) g j why
  gap_row _ j group (Row.overflows h row e) = GapRow.overflows row (omega (arith, e))
  gap_row _ j group (Row.not_shortest h row e) = GapRow.not_shortest row (omega (arith, e, whole group row))
  gap_row _ j group (Row.ends h row e) = absurd (omega (arith, group_length group, high_full g row.high))
  gap_row _ j group (Row.past h e) = absurd (omega arith)

  row_gap : (why : Refusal) (j : ℕ) → Group g → GapRow (width k) g j why → Row (width k) g 0 j why
  row_gap _ j group (GapRow.overflows row e) = Row.overflows (omega arith) row (omega (arith, e))
  row_gap _ j group (GapRow.not_shortest row e) = Row.not_shortest (omega arith) row (omega (arith, e, whole group row))

  pub read_group : Group g → ReadGroup k g
  read_group group = record {
    number = λ v. (is_form v group, λ h. form_is v h.0 h.1);
    gap = λ why j. (
      λ e. gap_row why j group (read_row k g 0 (group_bytes group) why j (from_front (width k) g ∙ e)),
      λ row. sym (from_front (width k) g) ∙ row_refused (width k) (reading_of k).sound why g 0 j (row_gap why j group row),
    );
  }
