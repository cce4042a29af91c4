-- The writer of slips, and the round trips.
--
--   slip_writes       a setting that is not good is refused by 11, and nothing else is; the form of any other is laid down
--   slip_write_read   what was written is read as the same setting, bit for bit
--   slip_read_write   what was read, written where it stood, changes no byte
--   slip_spelled      a setting is read from no bytes but its form,
--   one_slip          and a form is of one setting, whatever stands behind it
--   slip_length       the kind fixes how many bytes a slip has
--   slip_behind       more bytes behind change neither a setting nor a refusal by 11
use Prim.Native.Nat.{ℕ}
use mathlib.Core.Bool.{false}
use mathlib.Core.List.{List, [], ◌∷◌, ◌++◌}
use mathlib.Core.Path.{◌≡◌, refl, ap, sym, ◌∙◌, subst}
use native.Mathlib.Omega.{arith}
use lib.ListN.{length, drop}
use lib.Seq.{drop-append_seam}
use Rattle.std.specs.Prelude.{Ok, Err}
use Rattle.words.specs.Answer.{gives, means_written, Written}
use Rattle.words.specs.Lays.{Lays}
use Rattle.words.specs.declared.Count.{Count}
use Rattle.words.specs.declared.Refusal.TheVariants.{Slip}
use Rattle.words.proofs.Cases.{by_test}
use Rattle.words.proofs.LaysExactly.{lays_exactly}
use Rattle.words.proofs.OneMeaning.{same_written, apart, given_value}
use Rattle.groups.specs.Begins.{Begins}
use Rattle.groups.specs.Group.{Bytes}
use Rattle.slips.specs.Slip.{form, good_setting, slip_at}
use Rattle.slips.specs.Promise.{means_setting, means_read_setting, OfF32, ReadsSetting, WritesSetting}
use Rattle.slips.specs.declared.Setting.{Setting}
use Rattle.slips.proofs.OneSetting.{same_read}
use Rattle.slips.proofs.Spelled.{length_body}
use Rattle.claims.specs.OfSlips.{Good, SlipRow, unknown_kind, bad, WritesSlip, SlipWriteRead, SlipReadWrite, SlipSpelled, OneSlip, SlipLength, SlipBehind}
use Rattle.claims.proofs.Begun.{byte_here, more_there, spelled, behind, lays_back, laid_begins, refused_by}
use Rattle.claims.proofs.SlipGood.{good_says}
use Rattle.claims.proofs.SlipRows.{row_refused, begins_given, given_begins, refused_row}

module _ (v : Setting) {s out : List ℕ} {at : ℕ} {r : Written} (w : WritesSetting v s at r out) where
  lays_good : Good (means_setting v) → Lays (form (means_setting v)) s at r out
  lays_good g =
      let t = (good_says (means_setting v)).1 g in
      record { answer = w.answer ∙ rw t; leaves = w.leaves ∙ rw t }

  refuses_bad : good_setting (means_setting v) ≡ false → (r ≡ Err Slip) × (out ≡ s)
  refuses_bad t = (same_written r (Err Slip) (w.answer ∙ rw t), w.leaves ∙ rw t)

  good_written : (n : Count) → r ≡ Ok n → Good (means_setting v)
  good_written n e =
      by_test (good_setting (means_setting v)) (good_says (means_setting v)).0 (λ t. apart (ap means_written (sym e ∙ (refuses_bad t).0)))

pub slip_writes : WritesSlip
slip_writes v before at r after w = (
  (
    λ n. by_test (good_setting (means_setting v)) (λ t. absurd (n ((good_says (means_setting v)).0 t))) (refuses_bad v w),
    λ e g. omega (arith, refused_by (lays_good v w g) Slip e.0),
  ),
  λ g. lays_exactly (form (means_setting v)) before at r after (lays_good v w g),
)

pub slip_write_read : SlipWriteRead
slip_write_read v before at n after r f32 w p =
    let g = good_written v w n refl in
    let b = laid_begins form Good (means_setting v) n g (lays_good v w g) in
    same_read r (Ok (v, n)) p.f32 f32 (p.answer ∙ begins_given after at (means_setting v) n.0 b)

-- where a setting was read the bytes begin with its form
stands : (s : List ℕ) (at : ℕ) (v : Setting) (n : Count) → Bytes s → ReadsSetting s at (Ok (v, n)) → Begins form Good s at (means_setting v) n.0
stands s at v n bytes p = given_begins s at bytes (means_setting v) n.0 (sym p.answer)

pub slip_read_write : SlipReadWrite
slip_read_write s at v n r after bytes p w = let b = stands s at v n bytes p in lays_back b (lays_good v w b.of_width)

pub slip_spelled : SlipSpelled
slip_spelled s at v n bytes p = spelled (stands s at v n bytes p)

pub one_slip : OneSlip
one_slip v w rest rest' g h e =
    let q : v ≡ w = given_value (sym (front v rest g) ∙ ap (λ (l : List ℕ). slip_at l 0) e ∙ front w rest' h) in
    let f = e ∙ ap (λ (x : ℕ × List ℕ). form x ++ rest') (sym q) in
    (q, sym (drop-append_seam (form v) rest) ∙ ap (drop (length (form v))) f ∙ drop-append_seam (form v) rest')
  where
    front : (v : ℕ × List ℕ) (rest : List ℕ) → Good v → slip_at (form v ++ rest) 0 ≡ gives (v, length (form v))
    front v rest g =
        begins_given (form v ++ rest) 0 v (length (form v)) (record { here = omega arith; of_width = g; rest = rest; begins = refl; count = refl })

pub slip_length : SlipLength
slip_length v g = omega (arith, length_body v.1, g.words.as_many)

row_behind : (s more : List ℕ) (at : ℕ) → SlipRow s at Slip → SlipRow (s ++ more) at Slip
row_behind s more at (unknown_kind k rest e h) = unknown_kind k (rest ++ more) (more_there s at more (k ∷ []) rest (byte_here s at e) e) h
row_behind s more at (bad k ws rest e h p b) = bad k ws (rest ++ more) (more_there s at more (form (k, ws)) rest (byte_here s at e) e) h p b

pub slip_behind : SlipBehind
slip_behind s more at q r bytes p o = (
  λ v n e. let b = stands s at v n bytes (subst (ReadsSetting s at) e p) in
      same_read r (Ok (v, n)) o.f32 (subst OfF32 e p.f32) (o.answer ∙ begins_given (s ++ more) at (means_setting v) n.0 (behind b more)),
  λ e. let row = refused_row s at bytes Slip (sym p.answer ∙ ap means_read_setting e) in
      same_read r (Err Slip) o.f32 tt (o.answer ∙ row_refused (s ++ more) at Slip (row_behind s more at row)),
)
