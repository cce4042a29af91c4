-- Document 02, #110: the grammar of phrases inside phrases, apart from any reader.
--
--   Phrase            what an item says: a sentence, or a phrase of others; `Phrases`: several in a row
--   Item d s p r      the list s begins with an item that says p, in which at most d branches nest; r is what stands behind it
--   Items d k s ps r  the list s begins with k such items, one after another
--   nesting           how deep branches nest
--   Good s p          the list s is exactly one item, and says p
--   sentences p       the sentences of the leaves, in order; `sentences_of`: of several in a row
use Rattle.std.specs.Prelude.{ℕ, suc, ◌+◌, ◌*◌, List, [], ◌∷◌, ◌++◌, ◌≡◌}

mutual
  pub data Phrase : Type 0 where
    sentence : ℕ → Phrase
    phrase : Phrases → Phrase

  pub data Phrases : Type 0 where
    nil : Phrases
    cons : Phrase → Phrases → Phrases

mutual
  pub data Item : ℕ → List ℕ → Phrase → List ℕ → Type 0 where
    -- an even n is a leaf, sentence n/2
    leaf : {d n m : ℕ} {r : List ℕ} → n ≡ 2 * m → Item d (n ∷ r) (sentence m) r
    -- an odd n is a branch of the next (n - 1)/2 items, with a branch less that may nest in each
    branch : {d n k : ℕ} {s r : List ℕ} {ps : Phrases} → n ≡ 2 * k + 1 → Items d k s ps r → Item (suc d) (n ∷ s) (phrase ps) r

  pub data Items : ℕ → ℕ → List ℕ → Phrases → List ℕ → Type 0 where
    none : {d : ℕ} {r : List ℕ} → Items d 0 r nil r
    more : {d k : ℕ} {s t r : List ℕ} {p : Phrase} {ps : Phrases} → Item d s p t → Items d k t ps r → Items d (suc k) s (cons p ps) r

-- branches nest at most 8 deep: the eighth is good, the ninth is not
abbrev pub nesting : ℕ
nesting = 8

-- a good list is exactly one item
abbrev pub Good : List ℕ → Phrase → Type 0
Good s p = Item nesting s p []

unfoldable mutual
  pub sentences : Phrase → List ℕ
  sentences (sentence m) = m ∷ []
  sentences (phrase ps) = sentences_of ps

  pub sentences_of : Phrases → List ℕ
  sentences_of nil = []
  sentences_of (cons p ps) = sentences p ++ sentences_of ps
