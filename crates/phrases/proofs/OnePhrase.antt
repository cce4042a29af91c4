-- The promise of `read_phrase` is met by one answer, with one slice, on every list.
--
--   one_row       no two rows hold
--   one_phrased   no second answer, and no second slice
--   same_phrase   answers that mean the same are the same
--   some_phrase   and some answer there is
use Prim.Native.Nat.{ℕ, ◌≤◌}
use mathlib.Core.List.{List, ◌++◌}
use mathlib.Core.Logic.{⊎_elim}
use mathlib.Core.Path.{◌≡◌, refl, ap}
use native.Mathlib.Omega.{arith}
use lib.ListN.{length, drop}
use Rattle.std.specs.Prelude.{Result, Ok, Err}
use Rattle.words.specs.Answer.{Answer, gives, refused, because}
use Rattle.words.specs.declared.Refusal.{Refusal}
use Rattle.words.specs.declared.Refusal.TheVariants.{TooLong, Tree, NoRoom}
use Rattle.words.proofs.Cases.{by_order}
use Rattle.words.proofs.OneMeaning.{same_by, back}
use Rattle.words.proofs.OneNumber.{refusal_back}
use Rattle.lists.specs.Lists.{list_limit}
use Rattle.lists.specs.declared.Numbers.{Numbers}
use Rattle.phrases.specs.Grammar.{Phrase, Good, sentences}
use Rattle.phrases.specs.Promise.{PhraseRow, too_long, not_good, no_room, Phrased, row, fills, means_read_phrase, ReadsPhrase}
use Rattle.phrases.proofs.OneReading.{one_item}
use Rattle.phrases.proofs.Decided.{good_or_not}

module _ {s : List ℕ} {room : ℕ} where
  pub one_row : {a b : Refusal} → PhraseRow s room a → PhraseRow s room b → a ≡ b
  one_row (too_long h) (too_long k) = refl
  one_row (too_long h) (not_good k g) = absurd (omega arith)
  one_row (too_long h) (no_room k q y g) = absurd (omega arith)
  one_row (not_good h f) (too_long k) = absurd (omega arith)
  one_row (not_good h f) (not_good k g) = refl
  one_row (not_good h f) (no_room k q y g) = absurd (f q y)
  one_row (no_room h p x f) (too_long k) = absurd (omega arith)
  one_row (no_room h p x f) (not_good k g) = absurd (g p x)
  one_row (no_room h p x f) (no_room k q y g) = refl

  no_row : {X : Type 0} {why : Refusal} {p : Phrase} → length s ≤ list_limit → Good s p → length (sentences p) ≤ room → PhraseRow s room why → X
  no_row h x f (too_long k) = absurd (omega arith)
  no_row {p = p} h x f (not_good k g) = absurd (g p x)
  no_row h x f (no_room k q y g) = let e = ap (λ z. length (sentences z)) (one_item x y).0 in absurd (omega arith)

pub one_phrased : {s old : List ℕ} {a b : Answer ℕ} {out out' : List ℕ} → Phrased s old a out → Phrased s old b out' → (a ≡ b) × (out ≡ out')
one_phrased (row x) (row y) = (ap (λ why. refused (because why)) (one_row x y), refl)
one_phrased (row x) (fills h q y g) = no_row h y g x
one_phrased (fills h p x f) (row y) = no_row h x f y
one_phrased {old = old} (fills h p x f) (fills k q y g) =
    let e = (one_item x y).0 in (ap (λ z. gives (length (sentences z))) e, ap (λ z. sentences z ++ drop (length (sentences z)) old) e)

pub same_phrase : (r r' : Result Numbers Refusal) → means_read_phrase r ≡ means_read_phrase r' → r ≡ r'
same_phrase =
    same_by means_read_phrase (back (λ (n : ℕ). Ok (record { 0 = n })) Err)
    (λ r. elim r as (λ k. (back (λ (n : ℕ). Ok (record { 0 = n })) Err) (means_read_phrase k) ≡ k) [ Ok n ↦ refl | Err why ↦ ap Err (refusal_back why) ])

pub some_phrase : (s old : List ℕ) → (r : Result Numbers Refusal) × (out : List ℕ) × ReadsPhrase s old r out
some_phrase s old =
    by_order list_limit (length s) (λ h. (Err TooLong, old, record { answer = row (too_long h) }))
    (λ h. ⊎_elim
    (λ x. by_order (length old) (length (sentences x.0))
    (λ f. (Err NoRoom, old, record { answer = row (no_room h x.0 x.1 f) }))
    (λ f. (Ok (record { 0 = length (sentences x.0) }), _, record { answer = fills h x.0 x.1 f })))
    (λ g. (Err Tree, old, record { answer = row (not_good h g) })) (good_or_not s))
