-- How many bytes below 128 stand at the front.
--
--   smalls_none             of no bytes, none
--   small_low, small_high   a byte below 128 is one more, and one of 128 or more ends them
--   smalls_within           they are no more than there are bytes
--   smalls_first            the first of two lists decides, unless all of it is below 128,
--   smalls_both             and then the second does
use Prim.Native.Nat.{ℕ, suc, ◌+◌, ◌≤◌, ◌<◌}
use mathlib.Core.Path.{◌≡◌, refl, ap, sym, ◌∙◌}
use mathlib.Core.List.{List, [], ◌∷◌, ◌++◌}
use native.Mathlib.Omega.{arith}
use borrow.Author.Tests.{lt-ltb, le-ltb}
use lib.ListN.{length}
use Rattle.words.proofs.Cases.{by_order}
use Rattle.lists.specs.InnerWord.{smalls}

pub smalls_none : smalls [] ≡ 0
unfolding smalls
smalls_none = refl

pub small_low : (b : ℕ) (g : List ℕ) → b < 128 → smalls (b ∷ g) ≡ suc (smalls g)
unfolding smalls
small_low b g h = rw (lt-ltb b 128 h)

pub small_high : (b : ℕ) (g : List ℕ) → 128 ≤ b → smalls (b ∷ g) ≡ 0
unfolding smalls
small_high b g h = rw (le-ltb b 128 h)

pub smalls_within : (g : List ℕ) → smalls g ≤ length g
unfolding smalls
smalls_within [] = omega arith
smalls_within (b ∷ g) =
    by_order b 128 (λ h. rw (small_low b g h) (omega (arith, smalls_within g))) (λ h. rw (small_high b g h) (omega arith))

pub smalls_first : (g t : List ℕ) → smalls g < length g → smalls (g ++ t) ≡ smalls g
smalls_first [] t h = absurd (omega arith)
smalls_first (b ∷ g) t h =
    by_order b 128
    (λ l. let e : smalls (b ∷ g) ≡ suc (smalls g) = small_low b g l in rw (small_low b (g ++ t) l, e) (ap suc (smalls_first g t (omega arith))))
    (λ l. small_high b (g ++ t) l ∙ sym (small_high b g l))

pub smalls_both : (g t : List ℕ) → smalls g ≡ length g → smalls (g ++ t) ≡ length g + smalls t
smalls_both [] t h = omega arith
smalls_both (b ∷ g) t h =
    by_order b 128
    (λ l. let e : smalls (b ∷ g) ≡ suc (smalls g) = small_low b g l in rw (small_low b (g ++ t) l) (omega (arith, smalls_both g t (omega arith))))
    (λ l. let e : smalls (b ∷ g) ≡ 0 = small_high b g l in absurd (omega arith))
