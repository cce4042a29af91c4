-- An entry laid down where there is room for it: the mark, and the numbers' forms one behind another.
--
--   form_spelling             a number's form is the bytes that spell it
--   stored_form               so where those are laid down, it is
--   form_ten                  a number of 64 bits takes ten bytes at most; `signed_ten`: a signed one
--   entry_takes               how many bytes an entry takes
--   mark_put                  a mark stored
--   small_put                 the one byte of a number below 128 stored
--   number_put, number_fits   a number's form stored, the others are left; there is room for it
use Prim.Native.Nat.{ℕ, ◌+◌, ◌^◌, ◌≤◌, ◌<◌}
use mathlib.Core.Path.{◌≡◌, refl, ap, sym, ◌∙◌}
use mathlib.Core.List.{List, [], ◌∷◌}
use native.Mathlib.Nat.{mod-eq_of_lt}
use native.Mathlib.Numerals.{add-one}
use native.Mathlib.Omega.{arith}
use lib.IntN.{ℤ}
use lib.ListN.{length, set, length-append}
use lib.Seq.{sets}
use lib.Signed.{mag}
use Rattle.words.specs.Inner.{Puts}
use Rattle.words.specs.Lays.{Lays}
use Rattle.words.specs.Answer.{Written}
use Rattle.words.proofs.LaysInParts.{Laying, part_laid, rest_fits}
use Rattle.bits.specs.Macros.{take_low_7_bits_lem}
use Rattle.groups.specs.Form.{spelling}
use Rattle.groups.specs.Promise.{Stores}
use Rattle.groups.specs.declared.Value.{Value}
use Rattle.groups.specs.declared.Value.TheVariants.{Unsigned, Signed}
use Rattle.groups.proofs.Spelling.{spelled_short}
use Rattle.uleb128.specs.Unsigned.{form as unsignedForm}
use Rattle.uleb128.proofs.Forms.{form_small, form_short}
use Rattle.sleb128.specs.Signed.{form as signedForm}
use Rattle.sleb128.proofs.Forms.{form_spelled}
use Rattle.blocks.specs.Block.{Val, unsigned, signed}
use Rattle.blocks.specs.Promise.{means_value}
use Rattle.entries.specs.Standing.{mark}
use Rattle.entries.specs.Saying.{form_of, forms_of}
use Rattle.entries.specs.Promise.{entry_form}
use Rattle.entries.specs.declared.Entry.{Entry}

pub form_spelling : (n : Value) → form_of (means_value n) ≡ spelling n
unfolding unsignedForm signedForm
form_spelling (Unsigned v) = refl
form_spelling (Signed v) = refl

pub stored_form : (n : Value) {s out : List ℕ} {at : ℕ} {r : Written} → Stores n s at r out → Lays (form_of (means_value n)) s at r out
stored_form n w = rw (form_spelling n) w

pub form_ten : (v : ℕ) → v < 2 ^ 64 → length (unsignedForm v) ≤ 10
form_ten v h = form_short v 9 (omega arith)

pub signed_ten : (v : ℤ) → mag v < 2 ^ 63 → length (signedForm v) ≤ 10
signed_ten v h = spelled_short (omega arith) 9 (form_spelled v) (omega arith)

pub entry_takes : (x : Entry)
    → length (entry_form x) ≡ 2 + length (unsignedForm x.segment) + length (unsignedForm x.sentence) + length (signedForm x.turn)
entry_takes x =
    omega (
      arith,
      length-append (unsignedForm x.segment) (forms_of (unsigned x.sentence ∷ signed x.turn ∷ [])),
      length-append (unsignedForm x.sentence) (forms_of (signed x.turn ∷ [])),
      length-append (signedForm x.turn) [],
    )

pub mark_put : (s : List ℕ) (at : ℕ) → Puts mark s at (at + 2) (set (set s at 128) (at + 1) 0)
mark_put s at = record { leaves = rw add-one; behind = refl }

pub small_put : (v : ℕ) (s : List ℕ) (at : ℕ) {bits : ℕ} → v < 128 → bits ≡ take_low_7_bits_lem v → Puts (unsignedForm v) s at (at + 1) (set s at bits)
small_put v s at h e =
    let f : unsignedForm v ≡ v ∷ [] = form_small v h in
    record { behind = ap (λ (g : List ℕ). at + length g) (sym f); leaves = ap (set s at) (e ∙ mod-eq_of_lt h) ∙ ap (sets s at) (sym f) }

module _ {all s : List ℕ} {at : ℕ} {out : List ℕ} {to : ℕ} (v : Val) (vs : List Val) (g : Laying all s at out to (forms_of (v ∷ vs))) where
  pub number_put : {after : List ℕ} {p : ℕ} → Puts (form_of v) out to p after → Laying all s at after p (forms_of vs)
  number_put w = part_laid g (form_of v) (forms_of vs) refl w.leaves w.behind

  pub number_fits : at + length all ≤ length s → to + length (form_of v) ≤ length out
  number_fits h = omega (arith, rest_fits g h, length-append (form_of v) (forms_of vs))
