-- The claims on forms: document 01's two sentences, the lengths, and what makes a signed form.
--
--   shortest_form                  the unsigned form: v alone if it is below 128, else (v mod 128) + 128 in front of the form of v div 128
--   twos_complement                the signed value of k bytes is that of their 7k bits in two's complement
--   within_length, length_within   v lies within k bytes exactly where `mag v` is below 64 * 128 ^ (k - 1)
--   one_too_many                   the last byte of a group is one too many exactly where the form of its signed value is shorter
--   form_of_value                  a group with none too many is the form of its signed value
--   signed_form                    the form of v is the only group of its length with the value v, in the fewest bytes that v lies within
--   signed_most                    a signed number of 64 bits takes at most ten bytes
use Prim.Native.Nat.{ℕ, suc, ◌+◌, ◌-◌, ◌*◌, ◌/◌, ◌%◌, ◌^◌, ◌≤◌, ◌<◌}
use mathlib.Core.Path.{◌≡◌, ap, ◌∙◌}
use mathlib.Core.List.{List, ◌∷◌}
use mathlib.Core.Bool.{true, false}
use mathlib.Core.Logic.{◌↔◌}
use native.Mathlib.Nat.{add_comm}
use native.Mathlib.Omega.{arith}
use borrow.Author.Tests.{lt-ltb, le-ltb}
use lib.Dec.{ltb}
use lib.IntN.{ℤ, pos, sub_ℕ, ◌+ℤ◌}
use lib.ListN.{length, get_or}
use lib.Pow.{pow_pos}
use lib.Signed.{mag}
use Rattle.words.specs.Answer.{pick}
use Rattle.words.proofs.Cases.{by_order, by_test}
use Rattle.groups.specs.Group.{Group, digits, run}
use Rattle.groups.specs.Width.{is_too_many}
use Rattle.groups.proofs.Run.{at_run, digits_below}
use Rattle.groups.proofs.Spelling.{some_bytes, spelled_group, spelled_short, short_small}
use Rattle.groups.proofs.Exact.{group_length, longer, shortest}
use Rattle.uleb128.specs.Unsigned as unsigned
use Rattle.uleb128.proofs.Forms.{form_small, form_large}
use Rattle.sleb128.specs.Signed.{twos, form, i64}
use Rattle.sleb128.proofs.Forms.{form_spelled}
use Rattle.sleb128.proofs.Widths.{spells, pow_seven, half_seven}
use Rattle.sleb128.proofs.ReadsForms.{value_above, value_below, form_value}
use Rattle.claims.specs.OfNumbers.{Shortest, TwosComplement, Within, SignedForm}
use Rattle.claims.proofs.Readers.{within_of_mag, mag_of_within}

pub shortest_form : Shortest
shortest_form v = (form_small v, λ h. form_large v h ∙ ap (λ (b : ℕ). b ∷ unsigned.form (v / 128)) (add_comm 128 (v % 128)))

pub twos_complement : TwosComplement
unfolding twos
twos_complement g =
    (λ h. rw (lt-ltb (digits g) (2 ^ (7 * length g - 1)) h), λ h. below_zero (2 ^ (7 * length g)) h (rw (pow_seven (length g)) (digits_below g)))
  where
    below_zero : (m : ℕ) {half : ℕ} → half ≤ digits g → digits g < m → pick (ltb (digits g) half) (pos (digits g)) (sub_ℕ (digits g) m) +ℤ pos m ≡ pos (digits g)
    below_zero m {half} h l =
        let e : suc (m - suc (digits g)) ≤ m = omega arith in
        rw (le-ltb (digits g) half h, lt-ltb (digits g) m l, le-ltb m (suc (m - suc (digits g))) e) (ap pos (omega arith))

-- within 7k bits: by the magnitude
half : (k : ℕ) → 0 < k → 2 ^ (7 * k - 1) ≡ 64 * 128 ^ (k - 1)
half k h = let e : k - 1 + 1 ≡ k = omega arith in rw e at (half_seven (k - 1))

within_length : (v : ℤ) (k : ℕ) → 0 < k → mag v < 64 * 128 ^ (k - 1) → Within k v
within_length v k p h = let w = within_of_mag v (2 ^ (7 * k - 1)) (rw (half k p) h) in record { from = w.0; to = w.1 }

length_within : (v : ℤ) (k : ℕ) → 0 < k → Within k v → mag v < 64 * 128 ^ (k - 1)
length_within v k p w = rw (half k p) at (mag_of_within v (2 ^ (7 * k - 1)) (pow_pos (7 * k - 1)) w.from w.to)

module _ {g : List ℕ} (r : Group g) where
  last_low : get_or g (run g) 0 < 128
  last_low = at_run g (omega (arith, group_length r))

  pub one_too_many : (is_too_many i64 g ≡ true) ↔ (length (form (i64.value g)) < length g)
  unfolding form
  one_too_many =
      by_order (get_or g (run g) 0) 64 (λ h. rw (value_above r h) (longer (spells false) r h))
      (λ h. rw (value_below r h) (longer (spells true) r (omega (arith, last_low))))

  form_of_value : is_too_many i64 g ≡ false → g ≡ form (i64.value g)
  unfolding form
  form_of_value t =
      by_order (get_or g (run g) 0) 64 (λ h. rw (value_above r h) (shortest (spells false) r h t))
      (λ h. rw (value_below r h) (shortest (spells true) r (omega (arith, last_low)) t))

pub signed_form : (v : ℤ) → SignedForm v
signed_form v =
    let p = form_spelled v in
    let some = some_bytes p in
    record {
      is_group = spelled_group (omega arith) p;
      value = form_value v;
      within = within_length v (length (form v)) some (short_small (omega arith) (length (form v) - 1) p (omega arith));
      smallest = λ k h w. let n = spelled_short (omega arith) (k - 1) p (length_within v k h w) in omega arith;
      only = λ g r e n.
          by_test (is_too_many i64 g)
          (λ t. let l = (one_too_many r).0 t in let m : length (form (i64.value g)) ≡ length (form v) = ap (λ (x : ℤ). length (form x)) e in
          absurd (omega arith))
          (λ t. form_of_value r t ∙ ap form e);
    }

-- a signed number of 64 bits takes at most ten bytes
pub signed_most : (v : ℤ) → mag v < 2 ^ 63 → length (form v) ≤ 10
signed_most v h = spelled_short (omega arith) 9 (form_spelled v) (omega arith)
