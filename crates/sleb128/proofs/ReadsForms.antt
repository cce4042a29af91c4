-- A reading at the signed width accepts exactly the forms of the numbers from -2 to the 63 to 2 to the 63, less one.
--
--   value_above, value_below   a group's value is what it says: not below zero where its last byte is below 64, else below zero
--   accepted_form              an accepted group is the form of its value, and that is of the width
--   form_value                 the value of a form is its number
--   read_begins, begins_read   from the reading to the form at the place, and back
use Prim.Native.Nat.{ℕ, ◌+◌, ◌-◌, ◌*◌, ◌^◌, ◌≤◌, ◌<◌}
use mathlib.Core.Path.{◌≡◌, ap, sym, ◌∙◌}
use mathlib.Core.List.{List}
use mathlib.Core.Bool.{true, false}
use native.Mathlib.Nat.{mul_comm, mul-le-mul_left}
use native.Mathlib.Omega.{arith}
use borrow.Author.Tests.{lt-ltb, le-ltb}
use lib.IntN.{ℤ, pos, negsuc}
use lib.ListN.{length, get_or}
use lib.Signed.{mag}
use Rattle.words.specs.Answer.{gives}
use Rattle.words.proofs.Cases.{by_order}
use Rattle.groups.specs.Group.{Bytes, Group, run}
use Rattle.groups.specs.Form.{below}
use Rattle.groups.specs.Width.{read, is_too_large, is_too_many}
use Rattle.groups.specs.Begins.{Begins}
use Rattle.groups.proofs.Run.{at_run}
use Rattle.groups.proofs.Spelling.{said, said_digits, spelled_group, spelled_said, last_small, group_bounds, complements}
use Rattle.groups.proofs.Exact.{accepts, accepted, group_length}
use Rattle.groups.proofs.Stands.{read_stands, form_read, read_form}
use Rattle.sleb128.specs.Signed.{form, twos, i64}
use Rattle.sleb128.proofs.Forms.{form_spelled}
use Rattle.sleb128.proofs.Widths.{sound, spells, pow_seven, half_seven}

-- the sign that a group's last byte tells, and the number that it says
module _ {g : List ℕ} (r : Group g) where
  size : length g ≡ run g + 1
  size = omega (arith, group_length r)

  pub value_above : get_or g (run g) 0 < 64 → i64.value g ≡ pos (said false g)
  unfolding twos
  value_above h =
      let m : 128 ^ run g * (get_or g (run g) 0 + 1) ≤ 128 ^ run g * 64 = mul-le-mul_left (128 ^ run g) (omega arith) in
      rw (
        ← (said_digits g),
        size,
        half_seven (run g),
        lt-ltb (said false g) (64 * 128 ^ run g) (omega (arith, group_bounds false r, mul_comm (128 ^ run g) 64)),
      )

  pub value_below : 64 ≤ get_or g (run g) 0 → i64.value g ≡ negsuc (said true g)
  unfolding twos
  value_below h =
      let m : 128 ^ run g * 64 ≤ 128 ^ run g * get_or g (run g) 0 = mul-le-mul_left (128 ^ run g) h in
      let p : 2 ^ (7 * length g) ≡ 128 ^ length g = pow_seven (length g) in
      let half : 2 ^ (7 * length g - 1) ≡ 64 * 128 ^ run g = rw size (half_seven (run g)) in
      rw (
        ← (said_digits g),
        half,
        p,
        le-ltb (said false g) (64 * 128 ^ run g) (omega (arith, group_bounds false r, mul_comm (128 ^ run g) 64)),
        lt-ltb (said false g) (128 ^ length g) (omega (arith, complements g)),
      )
      (ap negsuc (omega (arith, complements g)))

  last_low : get_or g (run g) 0 < 128
  last_low = at_run g (omega (arith, size))

  -- an accepted group is the form of its value, and that is of the width
  pub accepted_form : is_too_large i64 g ≡ false → is_too_many i64 g ≡ false → (g ≡ form (i64.value g)) × (mag (i64.value g) < 2 ^ 63)
  unfolding form
  accepted_form e t =
      by_order (get_or g (run g) 0) 64
      (λ h. rw (value_above h) (accepted (spells false) r h e t))
      (λ h. rw (value_below h) (accepted (spells true) r (omega (arith, last_low)) e t))

-- a form has the value of its number
pub form_value : (v : ℤ) → i64.value (form v) ≡ v
form_value (pos n) =
    let s = form_spelled (pos n) in
    value_above (spelled_group (omega arith) s) (last_small (omega arith) s) ∙ ap pos (spelled_said (omega arith) s)
form_value (negsuc n) =
    let s = form_spelled (negsuc n) in
    let l : 127 - get_or (form (negsuc n)) (run (form (negsuc n))) 0 < 64 = last_small (omega arith) s in
    value_below (spelled_group (omega arith) s) (omega arith) ∙ ap negsuc (spelled_said (omega arith) s)

module _ (s : List ℕ) (at : ℕ) {v : ℤ} {n : ℕ} where
  pub read_begins : Bytes s → read i64 s at ≡ gives (v, n) → Begins form (λ x. mag x < 2 ^ 63) s at v n
  read_begins bytes e =
      let g = read_stands i64 s at sound bytes e in
      let a = accepted_form g.is_group g.not_large g.not_many in
      let f : g.group ≡ form v = a.0 ∙ ap form (sym g.value) in
      read_form i64 s at g f (rw g.value a.1)

  pub begins_read : Begins form (λ x. mag x < 2 ^ 63) s at v n → read i64 s at ≡ gives (v, n)
  unfolding form
  begins_read b = form_read i64 s at b (accepts (spells (below v)) b.of_width) (form_value v)
