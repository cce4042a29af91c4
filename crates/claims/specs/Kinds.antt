-- The four kinds of number and what is theirs: the names that the claims speak of, each as the crates have it.
--
--   Kind          u64 by loop, u64 by recursion, u32, i64
--   Value         its numbers
--   Reply         what its reader answers: a number with its count of bytes (`number`), or a refusal with its place (`refuse`)
--   ReadsAs       what its reader promises: the `ensures` of `read_u64`, `read_u64_rec`, `read_u32`, `read_i64`
--   WritesAs      what its writer promises: the `ensures` of `write_u64`, `write_u64_rec`, `write_u32`, `write_i64`
--   TakesAs       what its length promises: `length_u64` (for both of 64 bits), `length_u32`, `length_i64`
--   width, form   its row of document 01's table, and the shortest form of a number
--   OfWidth       the numbers of the width
use Rattle.std.specs.Prelude.{ℕ, ◌^◌, ◌<◌, List, ℤ, pos, neg_ℤ, ◌≤ℤ◌, ◌<ℤ◌, Ok, Err}
use Rattle.words.specs.Answer.{Reading, Written}
use Rattle.words.specs.declared.Count.{Count}
use Rattle.words.specs.declared.Place.{Place}
use Rattle.words.specs.declared.Refusal.{Refusal}
use Rattle.groups.specs.Width.{Width}
use Rattle.uleb128.specs.Unsigned as unsigned
use Rattle.uleb128.specs.Promise.{ReadsU64, ReadsU32, WritesU64, WritesU32, LengthU64, LengthU32}
use Rattle.sleb128.specs.Signed as signed
use Rattle.sleb128.specs.Promise.{ReadsI64, WritesI64, LengthI64}
use Rattle.uleb128_rec.specs.Promise.{ReadsU64Rec, WritesU64Rec}

pub data Kind : Type 0 where
  loop64 recursive64 unsigned32 signed64 : Kind

abbrev pub Value : Kind → Type 0
Value loop64 = ℕ
Value recursive64 = ℕ
Value unsigned32 = ℕ
Value signed64 = ℤ

abbrev pub Reply : Kind → Type 0
Reply k = Reading (Value k)

abbrev pub number : (k : Kind) → Value k → Count → Reply k
number k v n = Ok (v, n)

abbrev pub refuse : (k : Kind) → Refusal → Place → Reply k
refuse k why p = Err (record { 0 = why; 1 = p })

abbrev pub ReadsAs : (k : Kind) → List ℕ → ℕ → Reply k → Type 0
ReadsAs loop64 s at r = ReadsU64 s at r
ReadsAs recursive64 s at r = ReadsU64Rec s at r
ReadsAs unsigned32 s at r = ReadsU32 s at r
ReadsAs signed64 s at r = ReadsI64 s at r

abbrev pub width : (k : Kind) → Width (Value k)
width loop64 = unsigned.u64
width recursive64 = unsigned.u64
width unsigned32 = unsigned.u32
width signed64 = signed.i64

abbrev pub form : (k : Kind) → Value k → List ℕ
form loop64 v = unsigned.form v
form recursive64 v = unsigned.form v
form unsigned32 v = unsigned.form v
form signed64 v = signed.form v

abbrev pub OfWidth : (k : Kind) → Value k → Type 0
OfWidth loop64 v = v < 2 ^ 64
OfWidth recursive64 v = v < 2 ^ 64
OfWidth unsigned32 v = v < 2 ^ 32
OfWidth signed64 v = (neg_ℤ (pos (2 ^ 63)) ≤ℤ v) × (v <ℤ pos (2 ^ 63))

abbrev pub WritesAs : (k : Kind) → Value k → List ℕ → ℕ → Written → List ℕ → Type 0
WritesAs loop64 v before at r after = WritesU64 v before at r after
WritesAs recursive64 v before at r after = WritesU64Rec v before at r after
WritesAs unsigned32 v before at r after = WritesU32 v before at r after
WritesAs signed64 v before at r after = WritesI64 v before at r after

abbrev pub TakesAs : (k : Kind) → Value k → Count → Type 0
TakesAs loop64 v r = LengthU64 v r
TakesAs recursive64 v r = LengthU64 v r
TakesAs unsigned32 v r = LengthU32 v r
TakesAs signed64 v r = LengthI64 v r
