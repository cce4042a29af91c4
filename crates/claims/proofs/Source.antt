-- The source's definitions say the same as ours.
--
--   serialize_same   `spec_serialize_helper` gives the form of a number
--   parse_same       `spec_parse` gives what the reading of 64 bits gives, and nothing exactly where it refuses
use Prim.Native.Nat.{ℕ, zero, suc, ◌+◌, ◌-◌, ◌*◌, ◌/◌, ◌%◌, ◌^◌, ◌≤◌, ◌<◌}
use mathlib.Core.Path.{◌≡◌, refl, ap, sym, ◌∙◌}
use mathlib.Core.List.{List, [], ◌∷◌, ◌++◌}
use mathlib.Core.Bool.{false}
use mathlib.Core.Logic.{◌↔◌}
use mathlib.Core.Option.{Option, some, none}
use native.Mathlib.Nat.{mod-eq_of_lt}
use native.Mathlib.Numerals.{add-one}
use native.Mathlib.Omega.{arith}
use borrow.Author.Tests.{lt-ltb, le-leb, lt-leb, eq-eqb, ne_eqb, ltb-true, leb-true}
use lib.Dec.{ltb, leb}
use lib.ListN.{length}
use Rattle.words.specs.Answer.{both, Answer, gives, refused, Why}
use Rattle.words.proofs.Cases.{by_order, by_test, both_true}
use Rattle.words.proofs.OneMeaning.{apart}
use Rattle.groups.specs.Begins.{Begins}
use Rattle.groups.specs.Group.{Bytes}
use Rattle.groups.specs.Width.{read}
use Rattle.bits.proofs.HighBit.{set_seven}
use Rattle.groups.proofs.Spelling.{Spelled, last, byte, spelled_short}
use Rattle.uleb128.specs.Unsigned.{form, u64}
use Rattle.uleb128.proofs.Forms.{form_small, form_large, form_spelled}
use Rattle.claims.specs.Kinds.{loop64}
use Rattle.claims.specs.Source.{spec_parse_more, spec_parse, spec_serialize_within, spec_serialize_helper}
use Rattle.claims.specs.OfNumbers.{SpecParse}
use Rattle.claims.proofs.Readers.{reading_of}

serialize_within : (n v : ℕ) → v ≤ n → spec_serialize_within n v ≡ form v
unfolding spec_serialize_within
serialize_within zero v h =
    let z : v ≡ 0 = omega arith in
    rw z (sym (form_small 0 (omega arith)))
serialize_within (suc n) v h =
    by_order v 128
    (λ l. let q : v / 128 ≡ 0 = omega arith in rw (eq-eqb (v / 128) 0 q, spec_serialize_within) (rw (mod-eq_of_lt l) (sym (form_small v l))))
    (λ l.
    rw (ne_eqb (v / 128) 0 (λ e. omega arith), spec_serialize_within)
    (rw (serialize_within n (v / 128) (omega arith)) (ap (λ (b : ℕ). b ∷ form (v / 128)) (set_seven (v % 128) (omega arith)) ∙ sym (form_large v l))))

pub serialize_same : (v : ℕ) → spec_serialize_helper v ≡ form v
unfolding spec_serialize_helper
serialize_same v = serialize_within v v (omega arith)

none_some : {X : Type 0} {p : ℕ × ℕ} → ◌≡◌ {A = Option (ℕ × ℕ)} none (some p) → X
none_some e = let z : ◌≡◌ {A = ℕ} 0 1 = cc in absurd (omega arith)

some_parts : {a b c d : ℕ} → ◌≡◌ {A = Option (ℕ × ℕ)} (some (a, b)) (some (c, d)) → (c ≡ a) × (d ≡ b)
some_parts {a} {b} {c} {d} e =
    let q : ◌≡◌ {A = ℕ × ℕ} (a, b) (c, d) = cc in (sym (ap (λ (x : ℕ × ℕ). x.0) q), sym (ap (λ (x : ℕ × ℕ). x.1) q))

abbrev Parsed : List ℕ → ℕ → ℕ → Type 0
Parsed s n v = Begins form (λ x. x < 2 ^ 64) s 0 v n

-- a low byte is a number
parsed_low : (b : ℕ) (s : List ℕ) → b < 128 → Parsed (b ∷ s) 1 b
parsed_low b s h =
    let f = form_small b h in
    record { here = omega arith; of_width = omega arith; rest = s; begins = rw f; count = rw f }

-- a high byte in front of one that isn't 0
parsed_high : (b : ℕ) (s : List ℕ) (n v : ℕ) → 128 ≤ b → b < 256 → 0 < v → v ≤ 2 ^ 57 - 1 → Parsed s n v → Parsed (b ∷ s) (n + 1) (v * 128 + b % 128)
parsed_high b s n v hi l pos small p =
    let q : (v * 128 + b % 128) / 128 ≡ v = omega arith in
    let r : 128 + (v * 128 + b % 128) % 128 ≡ b = omega arith in
    let f : form (v * 128 + b % 128) ≡ b ∷ form v = form_large (v * 128 + b % 128) (omega arith) ∙ rw (q, r) in
    record {
      here = omega arith;
      of_width = omega arith;
      rest = p.rest;
      begins = rw (f, p.begins);
      count = rw f (omega (arith, p.count));
    }

parsed_more : (b : ℕ) (s : List ℕ) → 128 ≤ b → b < 256 → ((n v : ℕ) → spec_parse s ≡ some (n, v) → Parsed s n v)
    → (o : Option (ℕ × ℕ)) → spec_parse s ≡ o → (n v : ℕ) → spec_parse_more (b % 128) o ≡ some (n, v) → Parsed (b ∷ s) n v
parsed_more b s hi l ih none q n v t = none_some t
parsed_more b s hi l ih (some p) q n v t =
    by_test (both (ltb p.0 (2 ^ 64 - 1)) (both (ltb 0 p.1) (leb p.1 (2 ^ 57 - 1))))
    (λ y.
    let z = both_true (ltb 0 p.1) (leb p.1 (2 ^ 57 - 1)) (both_true (ltb p.0 (2 ^ 64 - 1)) _ y).1 in
    let w = some_parts (rw y at t) in
    rw (w.0, w.1) (parsed_high b s p.0 p.1 hi l (ltb-true 0 p.1 z.0) (leb-true p.1 (2 ^ 57 - 1) z.1) (ih p.0 p.1 q)))
    (λ y. none_some (rw y at t))

parsed : (s : List ℕ) → Bytes s → (n v : ℕ) → spec_parse s ≡ some (n, v) → Parsed s n v
unfolding spec_parse
parsed [] bytes n v e = none_some e
parsed (b ∷ s) bytes n v e =
    by_order b 128
    (λ l. let w = some_parts (rw (lt-leb 128 b l) at e) in rw (w.0, w.1, mod-eq_of_lt l) (parsed_low b s l))
    (λ l.
    parsed_more b s l (bytes 0) (λ n v q. parsed s (λ i. bytes (suc i)) n v q) (spec_parse s) refl n v (rw (le-leb 128 b l) at e))

-- and each form is parsed
parse_form : {v : ℕ} {g : List ℕ} (rest : List ℕ) → Spelled false 128 v g → v < 2 ^ 64 → spec_parse (g ++ rest) ≡ some (length g, v)
unfolding spec_parse
parse_form rest (last {m} p) h = rw (lt-leb 128 m p, mod-eq_of_lt p)
parse_form rest (byte {m} {g} p r) h =
    let n : length g ≤ 10 = spelled_short (omega arith) 9 r (omega arith) in
    let q : (128 + m % 128) % 128 ≡ m % 128 = omega arith in
    let e : m / 128 * 128 + m % 128 ≡ m = omega arith in
    rw (
      le-leb 128 (128 + m % 128) (omega arith),
      parse_form rest r (omega arith),
      lt-ltb (length g) (2 ^ 64 - 1) (omega arith),
      lt-ltb 0 (m / 128) (omega arith),
      le-leb (m / 128) (2 ^ 57 - 1) (omega arith),
      q,
      e,
      add-one,
    )

parse_read : (s : List ℕ) → Bytes s → (v n : ℕ) → (spec_parse s ≡ some (n, v)) ↔ (read u64 s 0 ≡ gives (v, n))
parse_read s bytes v n = (
  λ e. (reading_of loop64).begun s 0 v n (parsed s bytes n v e),
  λ e.
      let b : Parsed s n v = (reading_of loop64).begins s 0 v n bytes e in
      ap spec_parse b.begins ∙ parse_form b.rest (form_spelled v) b.of_width ∙ ap (λ (m : ℕ). some (m, v)) (sym b.count),
)

pub parse_same : SpecParse
parse_same s bytes = (parse_read s bytes, (λ e. by_answer (read u64 s 0) refl e, λ p. by_parse (spec_parse s) refl p.1))
  where
    by_answer : (a : Answer (ℕ × ℕ)) → read u64 s 0 ≡ a → spec_parse s ≡ none → (why : Why) × (read u64 s 0 ≡ refused why)
    by_answer (gives p) q e = none_some (sym e ∙ (parse_read s bytes p.0 p.1).1 q)
    by_answer (refused k) q e = (k, q)

    by_parse : {k : Why} (o : Option (ℕ × ℕ)) → spec_parse s ≡ o → read u64 s 0 ≡ refused k → spec_parse s ≡ none
    by_parse none q e = q
    by_parse (some p) q e = apart (sym ((parse_read s bytes p.1 p.0).0 q) ∙ e)
