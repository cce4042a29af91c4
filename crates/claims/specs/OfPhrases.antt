-- What is claimed of phrases: document 02, #110. The grammar is phrases/specs/Grammar.antt, and the rows of the refusals stand beside the promise there.
--
--   FillsPhrase, LeavesSlice   the reader: when it fills the slice, and what it leaves there
--   RefusesPhrase              it refuses exactly by its rows
--   many ps                    how many items there are in a row
--   spelled p                  the numbers of an item that says p; `spelled_of`: of several in a row
--   depth p                    how deep branches nest in it; `deepest`: in several in a row
--   SpelledPhrase              the good lists are the numbers of what nests at most 8 deep
--   OneReading, NoFront        a good list has one reading, and is no front of another
--   inside k                   a leaf inside k branches, each of which has one item
--   NestsTo8                   the eighth branch is good, the ninth is not
--   EmptyPhrases               an empty branch is good, and an empty list is not
--   PhrasesMet, PhrasesOne     an answer meets the promise, and no second
--   OfPhrases                  all of it
use Rattle.std.specs.Prelude.{ℕ, zero, suc, max, ◌+◌, ◌*◌, ◌≤◌, List, [], ◌∷◌, ◌++◌, ◌↔◌, ◌≡◌, length, drop, Result, Ok, Err}
use Rattle.words.specs.declared.Refusal.{Refusal}
use Rattle.lists.specs.Lists.{list_limit}
use Rattle.lists.specs.declared.Numbers.{Numbers}
use Rattle.phrases.specs.Grammar.{Phrase, Phrases, sentence, phrase, nil, cons, Good, sentences}
use Rattle.phrases.specs.Promise.{PhraseRow, ReadsPhrase}

-- The slice is filled exactly when the list is one item of the grammar, within the limit, and its leaves fit; the count is theirs.
abbrev pub FillsPhrase : Type 0
FillsPhrase = (s old : List ℕ) (r : Result Numbers Refusal) (out : List ℕ) → ReadsPhrase s old r out
    → (n : Numbers) → (r ≡ Ok n) ↔ ((p : Phrase) × Good s p × (length s ≤ list_limit) × (n.0 ≡ length (sentences p)) × (n.0 ≤ length old))

-- It then has exactly their sentences at its front, in order, and keeps the rest; after a refusal it is as it was.
abbrev pub LeavesSlice : Type 0
LeavesSlice = (s old : List ℕ) (r : Result Numbers Refusal) (out : List ℕ) → ReadsPhrase s old r out →
    ((n : Numbers) (p : Phrase) → r ≡ Ok n → Good s p → out ≡ sentences p ++ drop n.0 old)
    × ((why : Refusal) → r ≡ Err why → out ≡ old)

-- A refusal is given exactly when its row holds, and no two rows do.
abbrev pub RefusesPhrase : Type 0
RefusesPhrase = (s old : List ℕ) (r : Result Numbers Refusal) (out : List ℕ) → ReadsPhrase s old r out
    → (why : Refusal) → (r ≡ Err why) ↔ PhraseRow s (length old) why

abbrev pub many : Phrases → ℕ
many nil = 0
many (cons p ps) = suc (many ps)

unfoldable mutual
  pub spelled : Phrase → List ℕ
  spelled (sentence m) = (2 * m) ∷ []
  spelled (phrase ps) = (2 * many ps + 1) ∷ spelled_of ps

  pub spelled_of : Phrases → List ℕ
  spelled_of nil = []
  spelled_of (cons p ps) = spelled p ++ spelled_of ps

unfoldable mutual
  pub depth : Phrase → ℕ
  depth (sentence m) = 0
  depth (phrase ps) = suc (deepest ps)

  pub deepest : Phrases → ℕ
  deepest nil = 0
  deepest (cons p ps) = max (depth p) (deepest ps)

-- The grammar, said the other way round: what nests at most 8 deep has one good list, and there is no other.
abbrev pub SpelledPhrase : Type 0
SpelledPhrase = (s : List ℕ) (p : Phrase) → Good s p ↔ ((s ≡ spelled p) × (depth p ≤ 8))

-- A good list has one reading, of the grammar alone;
abbrev pub OneReading : Type 0
OneReading = (s : List ℕ) (p q : Phrase) → Good s p → Good s q → p ≡ q

-- and where it stands at the front of another good list, it is that list.
abbrev pub NoFront : Type 0
NoFront = (s more : List ℕ) (p q : Phrase) → Good s p → Good (s ++ more) q → more ≡ []

abbrev pub inside : ℕ → List ℕ
inside zero = 0 ∷ []
inside (suc k) = 3 ∷ inside k

-- "Branches nest at most 8 deep: the eighth is good, the ninth is not."
abbrev pub NestsTo8 : Type 0
NestsTo8 = (k : ℕ) → ((p : Phrase) × Good (inside k) p) ↔ (k ≤ 8)

abbrev pub EmptyPhrases : Type 0
EmptyPhrases = Good (1 ∷ []) (phrase nil) × ((p : Phrase) → Good [] p → ⊥)

-- The promise is met by some answer, with some final content of what was lent, on every input: no claim over it is empty.
pub record PhrasesMet : Type 0 where
  pub phrase : (s old : List ℕ) → (r : Result Numbers Refusal) × (out : List ℕ) × ReadsPhrase s old r out

-- And by no second: no second answer, and no second final content of what was lent.
pub record PhrasesOne : Type 0 where
  pub phrase : (s old : List ℕ) (r r' : Result Numbers Refusal) (out out' : List ℕ) → ReadsPhrase s old r out → ReadsPhrase s old r' out' → (r ≡ r') × (out ≡ out')

pub record OfPhrases : Type 0 where
  pub phrase_fills : FillsPhrase
  pub phrase_leaves : LeavesSlice
  pub phrase_refuses : RefusesPhrase
  pub phrase_spelled : SpelledPhrase
  pub one_reading : OneReading
  pub no_front : NoFront
  pub nests_to_8 : NestsTo8
  pub empty_phrases : EmptyPhrases
  pub met : PhrasesMet
  pub one : PhrasesOne
