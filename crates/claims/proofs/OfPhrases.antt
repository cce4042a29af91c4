-- What is claimed of phrases, proved.
--
--   filled_by, refused_by    what a promised answer rests on
--   nested, within_nesting   a leaf inside k branches is an item where that many may nest, and only there
--   empty_branch             an empty branch is good
--   phrases                  the chapter
use Prim.Native.Nat.{ℕ, zero, suc, ◌≤◌}
use mathlib.Core.List.{List, [], ◌∷◌, ◌++◌}
use mathlib.Core.Path.{◌≡◌, refl, ap, sym, ◌∙◌}
use native.Mathlib.Omega.{arith}
use lib.ListN.{length, drop}
use Rattle.std.specs.Prelude.{Ok, Err}
use Rattle.words.specs.Answer.{Answer, gives, refused, because}
use Rattle.words.specs.declared.Refusal.{Refusal}
use Rattle.words.proofs.OneMeaning.{apart, refused_same}
use Rattle.lists.specs.Lists.{list_limit}
use Rattle.phrases.specs.Grammar.{Phrase, phrase, sentence, nil, cons, Item, leaf, branch, none, more, Good, sentences}
use Rattle.phrases.specs.Promise.{PhraseRow, Phrased, row, fills, means_read_phrase}
use Rattle.phrases.proofs.OneReading.{one_item}
use Rattle.phrases.proofs.OnePhrase.{one_phrased, same_phrase, some_phrase}
use Rattle.claims.specs.OfPhrases.{FillsPhrase, LeavesSlice, RefusesPhrase, inside, NestsTo8, EmptyPhrases, OfPhrases}
use Rattle.claims.proofs.PhraseSpelled.{phrase_spelled, no_front}

record FilledBy (s old : List ℕ) (n : ℕ) (out : List ℕ) : Type 0 where
  says : Phrase
  good : Good s says
  short : length s ≤ list_limit
  count : n ≡ length (sentences says)
  enough : n ≤ length old
  leaves : out ≡ sentences says ++ drop n old

filled_by : {s old out : List ℕ} {a : Answer ℕ} {n : ℕ} → Phrased s old a out → a ≡ gives n → FilledBy s old n out
filled_by (row x) e = apart (sym e)
filled_by {old = old} {n = n} (fills h p x f) e =
    let i : length (sentences p) ≡ n = cc in
    record { says = p; good = x; short = h; count = sym i; enough = omega arith; leaves = ap (λ k. sentences p ++ drop k old) i }

refused_by : {s old out : List ℕ} {a : Answer ℕ} {why : Refusal} → Phrased s old a out → a ≡ refused (because why) → PhraseRow s (length old) why × (out ≡ old)
refused_by {why = why} (row {why = w} x) e = (rw (refused_same w why e) at x, refl)
refused_by (fills h p x f) e = apart e

phrase_fills : FillsPhrase
phrase_fills s old r out q n = (
  λ e. let f = filled_by q.answer (ap means_read_phrase e) in (f.says, f.good, f.short, f.count, f.enough),
  λ f. same_phrase r (Ok n) ((one_phrased q.answer (fills f.2 f.0 f.1 (omega (arith, f.3, f.4)))).0 ∙ ap gives (sym f.3)),
)

phrase_leaves : LeavesSlice
phrase_leaves s old r out q = (
  λ n p e x. let f = filled_by q.answer (ap means_read_phrase e) in
      f.leaves ∙ ap (λ z. sentences z ++ drop n.0 old) (one_item f.good x).0,
  λ why e. (refused_by {why = why} q.answer (ap means_read_phrase e)).1,
)

phrase_refuses : RefusesPhrase
phrase_refuses s old r out q why = (
  λ e. (refused_by q.answer (ap means_read_phrase e)).0,
  λ x. same_phrase r (Err why) (one_phrased q.answer (row x)).0,
)

nested : (k d : ℕ) → k ≤ d → (p : Phrase) × Item d (inside k) p []
nested zero d h = (sentence 0, leaf refl)
nested (suc k) zero h = absurd (omega arith)
nested (suc k) (suc d) h = let x = nested k d (omega arith) in (phrase (cons x.0 nil), branch {k = 1} refl (more x.1 none))

within_nesting : (k d : ℕ) {p : Phrase} {r : List ℕ} → Item d (inside k) p r → k ≤ d
within_nesting zero d x = omega arith
within_nesting (suc k) d (leaf e) = absurd (omega arith)
within_nesting (suc k) (suc d) (branch e none) = absurd (omega arith)
within_nesting (suc k) (suc d) (branch e (more x xs)) = let h = within_nesting k d x in omega arith

nests_to_8 : NestsTo8
nests_to_8 k = (λ x. within_nesting k 8 x.1, nested k 8)

empty_branch : Good (1 ∷ []) (phrase nil)
empty_branch = branch {k = 0} refl none

empty_phrases : EmptyPhrases
empty_phrases = (empty_branch, λ p x. elim x [ ])

pub phrases : OfPhrases
phrases = record {
  phrase_fills = phrase_fills;
  phrase_leaves = phrase_leaves;
  phrase_refuses = phrase_refuses;
  phrase_spelled = phrase_spelled;
  one_reading = λ s p q x y. (one_item x y).0;
  no_front = no_front;
  nests_to_8 = nests_to_8;
  empty_phrases = empty_phrases;
  met = record { phrase = some_phrase };
  one = record { phrase = λ s old r r' out out' a b. let w = one_phrased a.answer b.answer in (same_phrase r r' w.0, w.1) };
}
