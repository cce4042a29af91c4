-- Bytes that begin with a form, over any way to spell: the round trips of numbers and of settings are the same laws.
--
--   byte_here     where a byte stands at a place, the place is not past the end
--   more_there    bytes that begin at a place do so whatever more stands behind them
--   taken         no more bytes are taken than are there
--   spelled       the bytes that are taken are the form
--   behind        the bytes begin with the form whatever more stands behind them
--   lays_back     a form laid down where it stood takes its count and changes no byte
--   laid_begins   where a form was laid down the bytes begin with it
--   refused_by    laying bytes down is refused by 5 and by no other number
use Prim.Native.Nat.{ℕ, ◌+◌, ◌-◌, ◌≤◌}
use mathlib.Core.List.{List, ◌∷◌, ◌++◌, append_assoc}
use mathlib.Core.Path.{◌≡◌, refl, ap, sym, ◌∙◌}
use native.Mathlib.Omega.{arith}
use lib.ListN.{length, take, drop, length-append, length-drop, take-append-drop}
use lib.Seq.{length-take-le, drop_at, drop-append-le, drop-drop, drop-append_seam, take-append_seam}
use Rattle.std.specs.Prelude.{Ok, Err}
use Rattle.words.specs.Answer.{means_written, Written}
use Rattle.words.specs.Lays.{Lays}
use Rattle.words.specs.Refusal.{number_of}
use Rattle.words.specs.declared.Count.{Count}
use Rattle.words.specs.declared.Refusal.{Refusal}
use Rattle.words.specs.declared.Refusal.TheVariants.{NoRoom}
use Rattle.words.proofs.Cases.{by_order}
use Rattle.words.proofs.LaysExactly.{laid_fits, laid_no_room, count_fits}
use Rattle.words.proofs.OneMeaning.{apart, refused_same}
use Rattle.groups.specs.Begins.{Begins}

module _ (s : List ℕ) (at : ℕ) where
  pub byte_here : {b : ℕ} {l : List ℕ} → drop at s ≡ b ∷ l → at ≤ length s
  byte_here e = omega (arith, ap length e, length-drop at s)

  pub more_there : (more l rest : List ℕ) → at ≤ length s → drop at s ≡ l ++ rest → drop at (s ++ more) ≡ l ++ (rest ++ more)
  more_there more l rest h e = drop-append-le at s more h ∙ rw e (append_assoc l rest more)

module _ {A : Type 0} {form : A → List ℕ} {OfWidth : A → Type 0} {s : List ℕ} {at : ℕ} {v : A} {n : Count} (b : Begins form OfWidth s at v n.0) where
  pub taken : at + length (form v) ≤ length s
  taken =
      let e : length s - at ≡ length (form v) + length b.rest = sym (length-drop at s) ∙ ap length b.begins ∙ length-append (form v) b.rest in
      omega (arith, b.here)

  pub spelled : take n.0 (drop at s) ≡ form v
  spelled = rw (b.begins, b.count) (take-append_seam (form v) b.rest)

  pub behind : (more : List ℕ) → Begins form OfWidth (s ++ more) at v n.0
  behind more = record {
    here = rw length-append (omega (arith, b.here));
    of_width = b.of_width;
    rest = b.rest ++ more;
    begins = more_there s at more (form v) b.rest b.here b.begins;
    count = b.count;
  }

  put_back : take at s ++ form v ++ drop (at + length (form v)) s ≡ s
  put_back =
      let e : drop (at + length (form v)) s ≡ b.rest =
      sym (drop-drop (length (form v)) at s) ∙ ap (drop (length (form v))) b.begins ∙ drop-append_seam (form v) b.rest in
      rw (e, append_assoc, ← b.begins, take-append-drop)

  pub lays_back : {r : Written} {after : List ℕ} → Lays (form v) s at r after → (r ≡ Ok n) × (after ≡ s)
  lays_back {r} {after} l =
      let f = laid_fits (form v) s at r after l taken in
      (f.0 ∙ ap (λ (m : ℕ). Ok (record { 0 = m })) (sym b.count), f.1 ∙ put_back)

pub laid_begins : {A : Type 0} (form : A → List ℕ) (OfWidth : A → Type 0) (v : A) {before after : List ℕ} {at : ℕ} (n : Count) → OfWidth v
    → Lays (form v) before at (Ok n) after → Begins form OfWidth after at v n.0
laid_begins form OfWidth v {before} {after} {at} n of_width l =
    let b = count_fits (form v) before at (Ok n) after l n refl in
    let e = (laid_fits (form v) before at (Ok n) after l b.0).1 in
    let rest = drop (at + length (form v)) before in
    let t : length (take at before) ≡ at = length-take-le at before (omega (arith, b.0)) in
    record {
      here = rw (e, append_assoc, length-append, t) (omega arith);
      of_width = of_width;
      rest = rest;
      begins = rw (e, append_assoc) (drop_at (take at before) (form v ++ rest) at t);
      count = b.1;
    }

pub refused_by : {bytes s out : List ℕ} {at : ℕ} {r : Written} → Lays bytes s at r out → (why : Refusal) → r ≡ Err why → number_of why ≡ 5
refused_by {bytes} {s} {out} {at} {r} l why e =
    by_order (length s) (at + length bytes)
    (λ h. ap number_of (refused_same why NoRoom (ap means_written (sym e ∙ (laid_no_room bytes s at r out l h).0))))
    (λ h. apart (ap means_written (sym (laid_fits bytes s at r out l h).0 ∙ e)))
