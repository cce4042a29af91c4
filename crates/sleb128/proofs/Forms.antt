-- Laws of the signed form: it is the number's spelling.
--
--   form_spelled   the form spells the magnitude of its number, at its sign
--   form_takes     what is promised of the spelling's length, of the number of its bits, is promised of the form's,
--   form_stored    and so it is where that spelling is laid down
use Prim.Native.Nat.{ℕ}
use mathlib.Core.List.{List}
use native.Mathlib.Omega.{arith}
use mir.Syntax.{w64}
use mir.Val.{to_z, of_z, SFits}
use mir.ValLaws.{to_z-of_z}
use lib.IntN.{ℤ}
use lib.Signed.{mag}
use Rattle.words.specs.declared.Count.{Count}
use Rattle.words.specs.Answer.{Written}
use Rattle.groups.specs.Form.{below}
use Rattle.groups.specs.Promise.{SpelledLength, Stores}
use Rattle.groups.specs.declared.Value.TheVariants.{Signed}
use Rattle.groups.proofs.Spelling.{Spelled, spelled}
use Rattle.sleb128.specs.Signed.{form}
use Rattle.sleb128.specs.Promise.{LengthI64, WritesI64}

pub form_spelled : (v : ℤ) → Spelled (below v) 64 (mag v) (form v)
unfolding form
form_spelled v = spelled (below v) 64 (omega arith) (mag v)

module _ (v : ℤ) (fits : SFits w64 v) where
  pub form_takes : {r : Count} → SpelledLength (Signed (to_z w64 (of_z w64 v))) r → LengthI64 v r
  unfolding form
  form_takes p = rw (to_z-of_z w64 v fits) at p

  pub form_stored : {s out : List ℕ} {at : ℕ} {r : Written} → Stores (Signed (to_z w64 (of_z w64 v))) s at r out → WritesI64 v s at r out
  unfolding form
  form_stored p = rw (to_z-of_z w64 v fits) at p
