-- The word for a group's fault.
--
--   other_fault   the word for a fault that isn't not-shortest is overflow
use Prim.Native.Nat.{ℕ, suc}
use mathlib.Core.Path.{◌≡◌, subst}
use mathlib.Core.List.{List, [], ◌∷◌}
use borrow.Author.Tests.{eqb-true}
use denote.Enum.Declared.{tag_of}
use denote.Struct.Field.{Field}
use types.Run.{OneOf, miss}
use lib.Dec.{eqb}
use Rattle.words.specs.Answer.{pick, because}
use Rattle.words.specs.Refusal.{number_of}
use Rattle.words.specs.declared.Refusal.{Refusal}
use Rattle.words.specs.declared.Refusal.TheVariants.{NotShortest}
use Rattle.words.proofs.Cases.{by_test}
use Rattle.words.proofs.OneNumber.{same_refusal}
use Rattle.words.specs.contracts.Refusal.{the_parts as parts, the_type}
use Rattle.texts.specs.Texts.{ascii}
use Rattle.listing.specs.Listing.{fault}

-- the places of all variants but not-shortest's, which is 2: the keys of `fault_of`'s second arm
abbrev others : List (List Field) → ℕ → List ℕ
others [] i = []
others (Fs ∷ Fss) i = pick (eqb i 2) (others Fss (suc i)) (i ∷ others Fss (suc i))

pub other_fault : (why : Refusal) → OneOf (others parts 0) (tag_of the_type why) → fault (because why) ≡ ascii "overflow"
other_fault why h =
    by_test (eqb (number_of why) 3)
    (λ t.
    let e : why ≡ NotShortest = same_refusal why NotShortest (eqb-true (number_of why) 3 t) in
    absurd (miss (others parts 0) 2 tt (subst (λ (a : Refusal). OneOf (others parts 0) (tag_of the_type a)) e h)))
    (λ t. rw t)
