-- An answer is determined by what it means, and a promise by its rows: what every crate's proofs of "one answer and no second" cite.
--
--   apart                      what was given is no refusal
--   given                      answers that give are the same where they give the same
--   by_answer                  a thing from either case of an answer
--   refused_same               a refusal is told by its number,
--   decided_same               and one with a place by its number and its place
--   given_value, given_count   the parts of a number that was given
--   same_both                  pairs are equal where their parts are
--   by_rows                    a promise that is met by one answer at most, whose rows meet it, and one of whose rows holds, is met exactly
--                              where a row holds
--   same_by                    what has a way back from its meaning is determined by it
--   back                       the way back to an answer of two kinds; `place_in`: to the place that a refusal carries
--   same_written, same_lays    so a writer has one answer, and leaves one buffer
use Prim.Native.Nat.{ℕ}
use mathlib.Core.List.{List}
use mathlib.Core.Path.{◌≡◌, refl, ap, sym, ◌∙◌, subst}
use mathlib.Core.Logic.{◌↔◌}
use native.Mathlib.Omega.{arith}
use Rattle.std.specs.Prelude.{Ok, Err}
use Rattle.words.specs.Answer.{Answer, gives, refused, means_written, because, because_at, Why, by, by_at, number_in, Written}
use Rattle.words.specs.Lays.{Lays}
use Rattle.words.specs.declared.Refusal.{Refusal}
use Rattle.words.proofs.OneNumber.{refusal_of, refusal_back, same_refusal}

pub apart : {A X : Type 0} {a : A} {k : Why} → ◌≡◌ {A = Answer A} (gives a) (refused k) → X
apart e = let z : ◌≡◌ {A = ℕ} 0 1 = cc in absurd (omega arith)

pub given : {A : Type 0} {a b : A} → ◌≡◌ {A = Answer A} (gives a) (gives b) → a ≡ b
given e = cc

pub by_answer : {A X : Type 0} (a : Answer A) → ((v : A) → a ≡ gives v → X) → ((k : Why) → a ≡ refused k → X) → X
by_answer (gives v) given_so refused-so = given_so v refl
by_answer (refused k) given_so refused-so = refused-so k refl

pub refused_same : {A : Type 0} (a b : Refusal) → ◌≡◌ {A = Answer A} (refused (because a)) (refused (because b)) → a ≡ b
refused_same a b e = same_refusal a b (cc)

pub decided_same : {A : Type 0} (a b : Refusal) {p q : ℕ} → ◌≡◌ {A = Answer A} (refused (because_at a p)) (refused (because_at b q)) → (a ≡ b) × (p ≡ q)
decided_same a b {p} {q} e = (same_refusal a b (cc), cc)

pub given_value : {A : Type 0} {a b : A} {m n : ℕ} → ◌≡◌ {A = Answer (A × ℕ)} (gives (a, m)) (gives (b, n)) → a ≡ b
given_value {A} {a} {b} {m} {n} e = let q : ◌≡◌ {A = A × ℕ} (a, m) (b, n) = cc in ap (λ (x : A × ℕ). x.0) q

pub given_count : {A : Type 0} {a b : A} {m n : ℕ} → ◌≡◌ {A = Answer (A × ℕ)} (gives (a, m)) (gives (b, n)) → m ≡ n
given_count {A} {a} {b} {m} {n} e = let q : ◌≡◌ {A = A × ℕ} (a, m) (b, n) = cc in ap (λ (x : A × ℕ). x.1) q

pub same_both : {A B : Type 0} {x y : A × B} → x.0 ≡ y.0 → x.1 ≡ y.1 → x ≡ y
same_both {A} {B} {x} {y} e f = ap (λ (a : A). (a, x.1)) e ∙ ap (λ (b : B). (y.0, b)) f

pub by_rows : {R : Type 0} {Promise Row : R → Type 0} → ((r r' : R) → Promise r → Promise r' → r ≡ r') → ((r : R) → Row r → Promise r)
    → (r : R) × Row r → (r : R) → Promise r ↔ Row r
by_rows {R} {Promise} {Row} one meets found r = (λ p. subst Row (one found.0 r (meets found.0 found.1) p) found.1, meets r)

pub same_by : {A R : Type 0} (means : R → A) (back : A → R) → ((r : R) → back (means r) ≡ r) → (r r' : R) → means r ≡ means r' → r ≡ r'
same_by means back is r r' e = sym (is r) ∙ ap back e ∙ is r'

abbrev pub place_in : Why → ℕ
place_in (by k) = 0
place_in (by_at k p) = p

abbrev pub back : {A R : Type 0} → (A → R) → (Refusal → R) → Answer A → R
back give refuse (gives a) = give a
back give refuse (refused k) = refuse (refusal_of (number_in k))

pub same_written : (r r' : Written) → means_written r ≡ means_written r' → r ≡ r'
same_written =
    same_by means_written (back (λ (n : ℕ). Ok (record { 0 = n })) Err)
    (λ r. elim r as (λ k. back (λ (n : ℕ). Ok (record { 0 = n })) Err (means_written k) ≡ k) [ Ok n ↦ refl | Err a ↦ ap Err (refusal_back a) ])

pub same_lays : {bytes s : List ℕ} {at : ℕ} {r r' : Written} {out out' : List ℕ} → Lays bytes s at r out → Lays bytes s at r' out'
    → (r ≡ r') × (out ≡ out')
same_lays {bytes} {s} {at} {r} {r'} a b = (same_written r r' (a.answer ∙ sym b.answer), a.leaves ∙ sym b.leaves)
