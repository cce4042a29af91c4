-- What the function of this crate promises.
--
--   PhraseRow           the row of each refusal, in the order of the tests
--   Phrased             the answer to the list s, with the slice old, and the slice afterwards: as it was, or with the sentences at its front
--   means_read_phrase   what the reader's answer says
--   ReadsPhrase         reading the list s into the slice old answers r and leaves out
use Rattle.std.specs.Prelude.{ℕ, ◌<◌, ◌≤◌, List, ◌++◌, length, drop, Result, Ok, Err}
use Rattle.words.specs.Answer.{Answer, gives, refused, because}
use Rattle.words.specs.declared.Refusal.{Refusal}
use Rattle.words.specs.declared.Refusal.TheVariants.{TooLong, Tree, NoRoom}
use Rattle.lists.specs.Lists.{list_limit}
use Rattle.lists.specs.declared.Numbers.{Numbers}
use Rattle.phrases.specs.Grammar.{Phrase, Good, sentences}

pub data PhraseRow (s : List ℕ) (room : ℕ) : Refusal → Type 0 where
  too_long : list_limit < length s → PhraseRow s room TooLong
  not_good : length s ≤ list_limit → ((p : Phrase) → Good s p → ⊥) → PhraseRow s room Tree
  no_room : length s ≤ list_limit → (p : Phrase) → Good s p → room < length (sentences p) → PhraseRow s room NoRoom

pub data Phrased (s old : List ℕ) : Answer ℕ → List ℕ → Type 0 where
  row : {why : Refusal} → PhraseRow s (length old) why → Phrased s old (refused (because why)) old
  fills : length s ≤ list_limit → (p : Phrase) → Good s p → length (sentences p) ≤ length old
      → Phrased s old (gives (length (sentences p))) (sentences p ++ drop (length (sentences p)) old)

abbrev pub means_read_phrase : Result Numbers Refusal → Answer ℕ
means_read_phrase (Ok n) = gives n.0
means_read_phrase (Err why) = refused (because why)

pub record ReadsPhrase (s old : List ℕ) (r : Result Numbers Refusal) (out : List ℕ) : Type 0 where
  pub answer : Phrased s old (means_read_phrase r) out
