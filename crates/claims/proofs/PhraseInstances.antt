-- An instance for each hypothesis of the claims of phrases that `met` does not already give: no claim is empty.
--
--   two_leaves     one_reading, no_front: the list 5 14 6 is a branch of two leaves
--   two_filled     phrase_leaves: its sentences fill the front of a slice of three
--   none_refused   phrase_leaves: no numbers are refused by 13, and the slice is kept
use mathlib.Core.List.{[], ◌∷◌}
use mathlib.Core.Path.{refl}
use native.Mathlib.Omega.{arith}
use Rattle.std.specs.Prelude.{Ok, Err}
use Rattle.words.specs.declared.Refusal.TheVariants.{Tree}
use Rattle.phrases.specs.Grammar.{phrase, sentence, nil, cons, leaf, branch, none, more, Good, sentences}
use Rattle.phrases.specs.Promise.{not_good, row, fills, ReadsPhrase}

two_leaves : Good (5 ∷ 14 ∷ 6 ∷ []) (phrase (cons (sentence 7) (cons (sentence 3) nil)))
two_leaves = branch {k = 2} refl (more (leaf refl) (more (leaf refl) none))

two_filled : ReadsPhrase (5 ∷ 14 ∷ 6 ∷ []) (9 ∷ 9 ∷ 9 ∷ []) (Ok (record { 0 = 2 })) (7 ∷ 3 ∷ 9 ∷ [])
unfolding sentences
two_filled = record { answer = fills (omega arith) _ two_leaves (omega arith) }

none_refused : ReadsPhrase [] (9 ∷ []) (Err Tree) (9 ∷ [])
none_refused = record { answer = row (not_good (omega arith) (λ p x. elim x [ ])) }
