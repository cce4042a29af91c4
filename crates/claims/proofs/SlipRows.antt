-- The reader of slips and the rows of its refusals.
--
--   row_refused     where a row holds, the slip is refused by its number,
--   begins_given    where the bytes begin with the form of a good setting, the slip gives it,
--   Outcome a       the answer a is a refusal and its row holds, or a setting and the bytes begin with its form; `outcome`: the reader's is one of these
--   given_begins    so where a setting is given, the bytes begin with its form, and it is good,
--   refused_row     and where a refusal is, a row of its number holds
--   slip_accepts    a setting is answered exactly where the bytes begin with its form, and it is good
--   slip_refuses    a refusal is answered exactly where its row holds
--   slip_excludes   no two numbers have a row, and none has where the bytes begin with the form of a good setting
--   slip_exhausts   one has, or the bytes begin with such a form
use Prim.Native.Nat.{ℕ, suc, ◌+◌, ◌≤◌}
use mathlib.Core.List.{List, ◌∷◌, ◌++◌}
use mathlib.Core.Logic.{◌⊎◌, inl, inr, ⊎_elim}
use mathlib.Core.Path.{◌≡◌, refl, ap, sym, ◌∙◌, subst}
use native.Mathlib.Omega.{arith}
use borrow.Author.Tests.{lt-ltb, le-ltb, le-leb}
use lib.ListN.{length, get_or, drop, length-append, drop_of_length-le}
use lib.Seq.{get_or-drop}
use Rattle.std.specs.Prelude.{Err}
use Rattle.words.specs.Answer.{Answer, gives, refused, because}
use Rattle.words.specs.declared.Refusal.{Refusal}
use Rattle.words.specs.declared.Refusal.TheVariants.{End, Place, Slip}
use Rattle.words.proofs.Cases.{by_test}
use Rattle.words.proofs.OneMeaning.{apart, refused_same, given_value, given_count}
use Rattle.groups.specs.Begins.{Begins}
use Rattle.groups.specs.Group.{Bytes}
use Rattle.slips.specs.Good.{good}
use Rattle.slips.specs.Slip.{measures, body, body_length, form, words, judged, bodied, slip, slip_at}
use Rattle.slips.specs.Promise.{means_read_setting}
use Rattle.slips.proofs.Spelled.{length_body, words_body, words_many, words_bits, body_words}
use Rattle.slips.proofs.ByTests.{kind_asked, body_asked, BodyAt, by_tests}
use Rattle.slips.proofs.OneSetting.{same_read}
use Rattle.claims.specs.OfSlips.{Words, Good, SlipRow, past, no_byte, unknown_kind, short_body, bad, AcceptsSlip, RefusesSlip, ExcludesSlip, ExhaustsSlip}
use Rattle.claims.proofs.Begun.{byte_here}
use Rattle.claims.proofs.SlipGood.{never_bad, bad_words}

module _ (s : List ℕ) (at : ℕ) where
  -- the words of a body at the place
  at_words : (k : ℕ) (ws rest : List ℕ) → drop at s ≡ form (k, ws) ++ rest → k ≤ 3 → Words (measures k) ws → slip_at s at ≡ judged k (measures k) ws
  unfolding bodied
  at_words k ws rest e h p =
      let t = le-ltb (length (body ws ++ rest)) (body_length (measures k)) (omega (arith, length-append (body ws) rest, length_body ws, p.as_many)) in
      body_asked s at (byte_here s at e) k (body ws ++ rest) e h ∙ rw (t, words_body (measures k) ws rest p.as_many p.bits)

  pub row_refused : (why : Refusal) → SlipRow s at why → slip_at s at ≡ refused (because why)
  unfolding slip_at slip bodied judged
  row_refused why (past h) = rw (lt-ltb (length s) at h)
  row_refused why (no_byte e) = rw (le-ltb (length s) at (omega arith), drop_of_length-le s {i = at} (omega arith))
  row_refused why (unknown_kind k l e h) = kind_asked s at (byte_here s at e) k l e ∙ rw (le-leb 4 k h)
  row_refused why (short_body k l e h i) = body_asked s at (byte_here s at e) k l e h ∙ rw (lt-ltb (length l) (body_length (measures k)) i)
  row_refused why (bad k ws rest e h p b) = at_words k ws rest e h p ∙ by_test (good (measures k) ws) (λ g. absurd (never_bad g b)) (λ g. rw g)

  pub begins_given : (v : ℕ × List ℕ) (n : ℕ) → Begins form Good s at v n → slip_at s at ≡ gives (v, n)
  unfolding judged
  begins_given (k, ws) n b =
      let g = b.of_width in
      let c : 1 + body_length (measures k) ≡ n = omega (arith, b.count, length_body ws, g.words.as_many) in
      at_words k ws b.rest b.begins g.known g.words
      ∙ by_test (good (measures k) ws) (λ e. rw (e, c)) (λ e. absurd (g.not_bad (bad_words (measures k) ws g.words e)))

  abbrev pub Outcome : Answer ((ℕ × List ℕ) × ℕ) → Type 0
  Outcome a =
      ((why : Refusal) × SlipRow s at why × (a ≡ refused (because why)))
      ⊎ ((v : ℕ × List ℕ) × (n : ℕ) × Begins form Good s at v n × (a ≡ gives (v, n)))

  -- bytes enough for a body are the form of the words that are read from them, and what stands behind
  body_spelled : Bytes s → (k : ℕ) (l : List ℕ) → BodyAt s at k l
      → (drop at s ≡ form (k, words (measures k) l) ++ drop (body_length (measures k)) l) × Words (measures k) (words (measures k) l)
  body_spelled bytes k l b =
      let e = b.kind_first in
      let behind : Bytes l = λ i. rw (ap (λ (x : List ℕ). get_or x (suc i) 0) (sym e), get_or-drop at s (suc i) 0) (bytes (at + suc i)) in (
        e ∙ ap (λ (x : List ℕ). k ∷ x) (body_words (measures k) l behind b.enough),
        record { as_many = words_many (measures k) l; bits = words_bits (measures k) l behind },
      )

  pub outcome : Bytes s → Outcome (slip_at s at)
  outcome bytes =
      by_tests Outcome s at (λ h. inl (Place, past h, refl)) (λ h. inl (End, no_byte h, refl)) (λ k l e h. inl (Slip, unknown_kind k l e h, refl))
      (λ k l e h i. inl (End, short_body k l e h i, refl))
      (λ k l b g.
      let f = body_spelled bytes k l b in
      let ws = words (measures k) l in
      inl (Slip, bad k ws (drop (body_length (measures k)) l) f.0 b.known f.1 (bad_words (measures k) ws f.1 g), refl))
      (λ k l b g.
      let f = body_spelled bytes k l b in
      let ws = words (measures k) l in
      inr (
        (k, ws),
        1 + body_length (measures k),
        record {
          here = byte_here s at b.kind_first;
          of_width = record { known = b.known; words = f.1; not_bad = never_bad g };
          rest = drop (body_length (measures k)) l;
          begins = f.0;
          count = omega (arith, length_body ws, words_many (measures k) l);
        },
        refl,
      ))

module _ (s : List ℕ) (at : ℕ) (bytes : Bytes s) where
  pub given_begins : (v : ℕ × List ℕ) (n : ℕ) → slip_at s at ≡ gives (v, n) → Begins form Good s at v n
  given_begins v n e =
      ⊎_elim (λ o. apart (sym e ∙ o.2)) (λ o. let q = sym o.3 ∙ e in rw (given_value q, given_count q) at o.2) (outcome s at bytes)

  pub refused_row : (why : Refusal) → slip_at s at ≡ refused (because why) → SlipRow s at why
  refused_row why e =
      ⊎_elim (λ o. subst (SlipRow s at) (refused_same o.0 why (sym o.2 ∙ e)) o.1) (λ o. apart (sym o.3 ∙ e)) (outcome s at bytes)

pub slip_accepts : AcceptsSlip
slip_accepts s at r bytes p v n = (λ e. given_begins s at bytes v n (sym p.answer ∙ e), λ b. p.answer ∙ begins_given s at v n b)

pub slip_refuses : RefusesSlip
slip_refuses s at r bytes p why = (
  λ e. refused_row s at bytes why (sym p.answer ∙ ap means_read_setting e),
  λ row. same_read r (Err why) p.f32 tt (p.answer ∙ row_refused s at why row),
)

pub slip_excludes : ExcludesSlip
slip_excludes s at = (
  λ a b x y. refused_same a b (sym (row_refused s at a x) ∙ row_refused s at b y),
  λ a v n x b. apart (sym (begins_given s at v n b) ∙ row_refused s at a x),
)

pub slip_exhausts : ExhaustsSlip
slip_exhausts s at bytes = ⊎_elim (λ o. inl (o.0, o.1)) (λ o. inr (o.0, o.1, o.2)) (outcome s at bytes)
