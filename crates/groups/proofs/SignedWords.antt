-- The few facts on a machine's signed numbers: the sign, the complement and the magnitude of an i64.
--
--   below_sign          the test for below zero says whether it is
--   word_back           a number of the width is the number of its bits
--   complement, above   for m below 2 to the 63: the complement of its bits is the number -m-1, and its bits are the number m
--   laid_back           where as many bytes as the spelling of a number's bits has, that spell the same, are laid down, so is the number's
use Prim.Native.Nat.{ℕ, suc, ◌-◌, ◌^◌, ◌<◌}
use mathlib.Core.Path.{◌≡◌, refl, ap, ◌∙◌}
use mathlib.Core.List.{List}
use mathlib.Core.Bool.{Bool}
use native.Mathlib.Omega.{arith}
use borrow.Author.Tests.{le-ltb}
use mir.Syntax.{w64}
use mir.Val.{to_z, of_z}
use mir.ValLaws.{to_z_pos, to_z-neg, to_z-of_z}
use lib.IntN.{ℤ, pos, negsuc}
use lib.Signed.{mag, lt_z}
use Rattle.words.specs.Lays.{Lays}
use Rattle.words.specs.declared.Count.{Count}
use Rattle.words.specs.Answer.{Written}
use Rattle.groups.specs.Form.{below}
use Rattle.groups.specs.Inner.{groups}
use Rattle.groups.specs.Promise.{SpelledLength, Stores}
use Rattle.groups.specs.declared.Value.TheVariants.{Signed}
use Rattle.groups.proofs.Spelling.{spelled, spelled_laid}

pub below_sign : (v : ℤ) → lt_z v (pos 0) ≡ below v
below_sign (pos n) = le-ltb n 0 (omega arith)
below_sign (negsuc n) = refl

-- a number in range, from its bits
pub word_back : (v : ℤ) → mag v < 2 ^ 63 → to_z w64 (of_z w64 v) ≡ v
word_back v h = to_z-of_z w64 v (record { sfits = h })

-- the complement of a magnitude's bits is the number below zero
pub complement : (m : ℕ) → m < 2 ^ 63 → to_z w64 (18446744073709551615 - m) ≡ negsuc m
complement m h = rw (let e : 18446744073709551615 - m ≡ 2 ^ 64 - suc m = omega arith in e) (to_z-neg w64 m h)

pub above : (m : ℕ) → m < 2 ^ 63 → to_z w64 m ≡ pos m
above m h = to_z_pos w64 m h

module _ (v : ℤ) (h : mag v < 2 ^ 63) where
  pub laid_back : {b : Bool} {m at : ℕ} {n : Count} {s out : List ℕ} {r : Written} → b ≡ below (to_z w64 (of_z w64 v)) → m ≡ mag (to_z w64 (of_z w64 v))
      → SpelledLength (Signed (to_z w64 (of_z w64 v))) n → Lays (groups b n.0 m) s at r out → Stores (Signed v) s at r out
  laid_back eb em p l =
      let back = word_back v h in
      spelled_laid (omega arith) (spelled (below v) 64 (omega arith) (mag v)) (rw back at p).is (rw (eb ∙ ap below back, em ∙ ap mag back) at l)
