-- Laws of the unsigned form: document 01's two sentences, and its length.
--
--   form_spelled             the form spells its number
--   form_small, form_large   one byte v below 128; else (v mod 128) + 128, and then the form of v div 128
--   form_some                a form has some byte
--   form_short               a form has at most k + 1 bytes where its number is below 128 to the k + 1
--   form_long                and more than k where its number is at least 128 to the k
--   form_takes               what is promised of its spelling's length is promised of its own,
--   form_stored              and so it is where the spelling is laid down
use Prim.Native.Nat.{ℕ, zero, suc, ◌+◌, ◌/◌, ◌%◌, ◌^◌, ◌≤◌, ◌<◌}
use mathlib.Core.Path.{◌≡◌}
use mathlib.Core.List.{List, [], ◌∷◌}
use mathlib.Core.Bool.{false}
use native.Mathlib.Omega.{arith}
use lib.ListN.{length}
use Rattle.words.specs.declared.Count.{Count}
use Rattle.words.specs.Answer.{Written}
use Rattle.groups.specs.Promise.{SpelledLength, Stores}
use Rattle.groups.specs.declared.Value.TheVariants.{Unsigned}
use Rattle.groups.proofs.Spelling.{Spelled, last, byte, spelled, some_bytes, spelled_unique}
use Rattle.groups.proofs.Lookup.{unsigned_short, unsigned_long}
use Rattle.uleb128.specs.Unsigned.{form}
use Rattle.uleb128.specs.Promise.{LengthU64, WritesU64}

pub form_spelled : (v : ℕ) → Spelled false 128 v (form v)
unfolding form
form_spelled v = spelled false 128 (omega arith) v

pub form_small : (v : ℕ) → v < 128 → form v ≡ v ∷ []
form_small v h = spelled_unique (form_spelled v) (last h)

pub form_large : (v : ℕ) → 128 ≤ v → form v ≡ (128 + v % 128) ∷ form (v / 128)
form_large v h = spelled_unique (form_spelled v) (byte h (form_spelled (v / 128)))

pub form_some : (v : ℕ) → 0 < length (form v)
form_some v = some_bytes (form_spelled v)

pub form_short : (v k : ℕ) → v < 128 ^ (k + 1) → length (form v) ≤ k + 1
unfolding form
form_short v k h = unsigned_short v k h

pub form_long : (v k : ℕ) → 128 ^ k ≤ v → k < length (form v)
unfolding form
form_long v zero h = form_some v
form_long v (suc k) h = let e : k + 1 ≡ suc k = omega arith in rw e at (unsigned_long v k (rw e h))

pub form_takes : (v : ℕ) {r : Count} → SpelledLength (Unsigned v) r → LengthU64 v r
unfolding form
form_takes v p = p

pub form_stored : (v : ℕ) {s out : List ℕ} {at : ℕ} {r : Written} → Stores (Unsigned v) s at r out → WritesU64 v s at r out
unfolding form
form_stored v p = p
