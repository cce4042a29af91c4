-- A reading at an unsigned width accepts exactly the forms of the numbers below the width's limit.
--
--   Under most top v           v is a number of the width: below 128 to the most - 1, times top + 1
--   read_begins, begins_read   from the reading to the form at the place, and back
--   case_read                  what an answer means is what the case that it is means
use Prim.Native.Nat.{ℕ, ◌+◌, ◌-◌, ◌*◌, ◌^◌, ◌<◌}
use mathlib.Core.Path.{◌≡◌, ap, sym, ◌∙◌}
use mathlib.Core.List.{List}
use mathlib.Core.Bool.{false}
use native.Mathlib.Omega.{arith}
use lib.ListN.{length}
use Rattle.words.specs.Answer.{Answer, gives, Reading, means_read}
use Rattle.groups.specs.Group.{Bytes, run}
use Rattle.groups.specs.Width.{read}
use Rattle.groups.specs.Begins.{Begins}
use Rattle.groups.proofs.Run.{at_run}
use Rattle.groups.proofs.Spelling.{said, said_digits, spelled_said}
use Rattle.groups.proofs.Exact.{accepts, accepted, group_length}
use Rattle.groups.proofs.Stands.{read_stands, form_read, read_form}
use Rattle.uleb128.specs.Unsigned.{form, unsigned}
use Rattle.uleb128.proofs.Forms.{form_spelled}
use Rattle.uleb128.proofs.Widths.{sound, spells}

-- the numbers of the width: below 2 to the 64 for 10 and 1, below 2 to the 32 for 5 and 15
abbrev pub Under : ℕ → ℕ → ℕ → Type 0
Under most top v = v < 128 ^ (most - 1) * (top + 1)

module _ (most top : ℕ) (some : 0 < most) (low : top < 128) (s : List ℕ) (at : ℕ) {v n : ℕ} where
  pub read_begins : Bytes s → read (unsigned most top) s at ≡ gives (v, n) → Begins form (Under most top) s at v n
  unfolding form
  read_begins bytes e =
      let g = read_stands (unsigned most top) s at (sound most top some low) bytes e in
      let closed : run g.group < length g.group = omega (arith, group_length g.is_group) in
      let d : said false g.group ≡ v = said_digits g.group ∙ sym g.value in
      let a = accepted (spells most top some low) g.is_group (at_run g.group closed) g.not_large g.not_many in
      let f : g.group ≡ form v = a.0 ∙ ap form d in
      read_form (unsigned most top) s at g f (rw d at a.1)

  pub begins_read : Begins form (Under most top) s at v n → read (unsigned most top) s at ≡ gives (v, n)
  unfolding form
  begins_read b =
      form_read (unsigned most top) s at b (accepts (spells most top some low) b.of_width)
      (sym (said_digits (form v)) ∙ spelled_said (omega arith) (form_spelled v))

-- what is read is what an answer's case says
pub case_read : {a : Answer (ℕ × ℕ)} {r q : Reading ℕ} → means_read r ≡ a → r ≡ q → a ≡ means_read q
case_read p e = sym p ∙ ap means_read e
