-- What is claimed of lists of numbers.
--
--   Of64Bits ns          every number of the list has 64 bits
--   IsForms s ns         the block s is the forms of the numbers ns, one after another: every group is a number, and there is no tail
--   FirstFault s p       behind the forms of some numbers, the first fault of the block s, decided at the place p: 2 or 3, a group that is none, by
--                        that row; 1, a tail of any length
--   StrictRefused        the row of each refusal without a place: 7, and 5, where there is no fault; no other refusal has a row
--   StrictRow            the row of each answer, with the slice afterwards
--   WritesLists          how a list is written
--   ListBack             a list that was written, read back
--   ListsMet, ListsOne   an answer meets each promise, and no second
--   OfLists              all of it
use Rattle.std.specs.Prelude.{ℕ, ◌+◌, ◌≤◌, ◌<◌, ◌^◌, ◌≡◌, List, ◌++◌, [], ◌∷◌, ◌↔◌, length, take, drop, Result, Ok, Err}
use Rattle.words.specs.Lays.{LaysExactly}
use Rattle.words.specs.declared.Count.{Count}
use Rattle.words.specs.declared.Refusal.TheVariants.{TooLong, End, NoRoom}
use Rattle.words.specs.declared.Refusal.{Refusal}
use Rattle.words.specs.Answer.{Written}
use Rattle.groups.specs.Group.{Bytes, High, Group}
use Rattle.uleb128.specs.Unsigned.{u64}
use Rattle.blocks.specs.Block.{block_limit}
use Rattle.lists.specs.Lists.{forms, list_limit}
use Rattle.lists.specs.Promise.{WritesList, ReadsStrict}
use Rattle.lists.specs.declared.NotRead.TheVariants as L
use Rattle.lists.specs.declared.Numbers.{Numbers}
use Rattle.lists.specs.declared.NotRead.{NotRead}
use Rattle.claims.specs.Table.{GapRow}

abbrev pub Of64Bits : List ℕ → Type 0
Of64Bits [] = Unit {0}
Of64Bits (v ∷ ns) = (v < 2 ^ 64) × Of64Bits ns

abbrev pub IsForms : List ℕ → List ℕ → Type 0
IsForms s ns = (s ≡ forms ns) × Of64Bits ns

-- a group that is no number, decided by its byte j; or nothing but a tail, decided by the block's end
pub data FirstFault (s : List ℕ) (p : ℕ) : Refusal → Type 0 where
  gap : {why : Refusal} (ns g more : List ℕ) (j : ℕ) → Of64Bits ns → s ≡ forms ns ++ (g ++ more) → Group g → GapRow u64 g j why
      → p ≡ length (forms ns) + j → FirstFault s p why
  tail : (ns t : List ℕ) → Of64Bits ns → s ≡ forms ns ++ t → 0 < length t → High t → p ≡ length s → FirstFault s p End

pub data StrictRefused (s : List ℕ) (room : ℕ) : Refusal → Type 0 where
  too_long : block_limit < length s → StrictRefused s room TooLong
  no_room : length s ≤ block_limit → (ns : List ℕ) → IsForms s ns → room < length ns → StrictRefused s room NoRoom

-- the numbers fill the front of the slice, and the rest is kept; or all is
abbrev pub StrictRow : List ℕ → List ℕ → Result Numbers NotRead → List ℕ → Type 0
StrictRow s old (Ok n) out =
    (length s ≤ block_limit) × (ns : List ℕ) × IsForms s ns × (length ns ≤ length old) × (n.0 ≡ length ns) × (out ≡ ns ++ drop (length ns) old)
StrictRow s old (Err (L.Faulty fault)) out = (length s ≤ block_limit) × FirstFault s fault.1.0 fault.0 × (out ≡ old)
StrictRow s old (Err (L.Refused why)) out = StrictRefused s (length old) why × (out ≡ old)

-- A list of more numbers than the limit is refused by 7; any other is written as one number is, its forms one after another.
abbrev pub WritesLists : Type 0
WritesLists = (ns before : List ℕ) (at : ℕ) (r : Written) (after : List ℕ) → WritesList ns before at r after →
    ((list_limit < length ns) ↔ ((r ≡ Err TooLong) × (after ≡ before)))
    × (length ns ≤ list_limit → LaysExactly (forms ns) before at r after)

-- Strict reading of what list writing wrote gives the list back, if that is within the block limit and the answer slice holds it.
abbrev pub ListBack : Type 0
ListBack = (ns before : List ℕ) (at : ℕ) (n : Count) (after old : List ℕ) (r : Result Numbers NotRead) (out : List ℕ)
    → Of64Bits ns → WritesList ns before at (Ok n) after → n.0 ≤ block_limit → length ns ≤ length old
    → ReadsStrict (take n.0 (drop at after)) old r out
    → (r ≡ Ok (record { 0 = length ns })) × (out ≡ ns ++ drop (length ns) old)

-- Each promise is met by some answer, with some final content of what was lent, on every input: no claim over promises is empty.
pub record ListsMet : Type 0 where
  pub strict : (s old : List ℕ) → Bytes s → (r : Result Numbers NotRead) × (out : List ℕ) × ReadsStrict s old r out
  pub list : (ns s : List ℕ) (at : ℕ) → (r : Written) × (out : List ℕ) × WritesList ns s at r out

-- And by no second: no second answer, and no second final content of what was lent.
pub record ListsOne : Type 0 where
  pub strict : (s old : List ℕ) (r r' : Result Numbers NotRead) (out out' : List ℕ) → ReadsStrict s old r out → ReadsStrict s old r' out' → (r ≡ r') × (out ≡ out')
  pub list : (ns s : List ℕ) (at : ℕ) (r r' : Written) (out out' : List ℕ) → WritesList ns s at r out → WritesList ns s at r' out'
      → (r ≡ r') × (out ≡ out')

pub record OfLists : Type 0 where
  pub strict_rows : (s old : List ℕ) (r : Result Numbers NotRead) (out : List ℕ) → Bytes s → ReadsStrict s old r out ↔ StrictRow s old r out
  pub writes_list : WritesLists
  pub list_back : ListBack
  pub met : ListsMet
  pub one : ListsOne
