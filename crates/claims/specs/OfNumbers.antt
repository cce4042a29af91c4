-- What is claimed of numbers: demand 2, how a number is spelled, and what the source says of it, over the promises that the functions' `ensures` are.
--
--   Accepts, Refuses, Excludes, Exhausts             demand 2, readers
--   Decides                                          which byte decides a refusal
--   Writes                                           demand 2, writers
--   Shortest, Most, most_bytes, zero_of              how a number is spelled, in how many bytes, and zero
--   Grows, GrowthValues                              at which values a number grows by a byte
--   TwosComplement, Within, SignedForm, OneTooMany   how a signed number is spelled
--   WriteRead, ReadWrite, MoreBehind, SomeByte       round trips, and what the source calls prefix-secure and productive
--   SpecParse                                        the source's own definition
--   NumbersMet, NumbersOne                           an answer meets each promise, and no second
--   OfNumbers                                        all of it
use Rattle.std.specs.Prelude.{ℕ, ◌+◌, ◌-◌, ◌*◌, ◌/◌, ◌%◌, ◌^◌, ◌≤◌, ◌<◌, ◌≡◌, List, [], ◌∷◌, ◌++◌, Bool, true, ◌↔◌, ◌⊎◌, ℤ, pos, neg_ℤ, ◌+ℤ◌, ◌≤ℤ◌, ◌<ℤ◌, length, get_or, take, Ok}
use Rattle.std.proofs.Math.Option.{some, none}
use Rattle.words.specs.Answer.{gives, refused, Why, Reading, Written}
use Rattle.words.specs.Lays.{LaysExactly}
use Rattle.words.specs.Promise.{Numbered, HasRoom}
use Rattle.words.specs.declared.Count.{Count}
use Rattle.words.specs.declared.Place.{Place}
use Rattle.words.specs.declared.Refusal.{Refusal}
use Rattle.words.specs.declared.Refusal.TheVariants.{End}
use Rattle.bits.specs.Promise.{TakesLow7Bits, IsHigh8BitSet, SetsHigh8Bit}
use Rattle.groups.specs.Begins.{Begins}
use Rattle.groups.specs.Form.{growth}
use Rattle.groups.specs.Group.{Bytes, Group, digits}
use Rattle.groups.specs.Promise.{Walks, Stores, SpelledLength}
use Rattle.groups.specs.declared.Value.{Value as ByKind}
use Rattle.groups.specs.Width.{read, is_too_many}
use Rattle.groups.specs.declared.Walked.{Walked}
use Rattle.uleb128.specs.Unsigned as unsigned
use Rattle.uleb128.specs.Promise.{ReadsU64, WritesU64}
use Rattle.sleb128.specs.Signed as signed
use Rattle.uleb128_rec.specs.Promise.{ReadsU64Rec, WritesU64Rec}
use Rattle.claims.specs.Kinds.{Kind, loop64, recursive64, unsigned32, signed64, Value, Reply, number, refuse, ReadsAs, width, form, OfWidth, WritesAs, TakesAs}
use Rattle.claims.specs.Table.{Row}
use Rattle.claims.specs.Source.{spec_parse, spec_serialize_helper}
use Rattle.claims.specs.Try.{Starred}

-- A reader accepts with v and n exactly when the bytes from the start begin with the shortest form of a number of the width, v is that
-- number and n the length of its form.
abbrev pub Accepts : Kind → Type 0
Accepts k = (s : List ℕ) (at : ℕ) (r : Reply k) → Bytes s → ReadsAs k s at r
    → (v : Value k) (n : Count) → (r ≡ number k v n) ↔ Begins (form k) (OfWidth k) s at v n.0

-- It refuses by a number, with a place, exactly when the row of that number holds and was decided there; no two rows hold, nor one at two
-- places, and none where it accepts; and one holds or it accepts.
abbrev pub Refuses : Kind → Type 0
Refuses k = (s : List ℕ) (at : ℕ) (r : Reply k) → Bytes s → ReadsAs k s at r
    → (why : Refusal) (p : Place) → (r ≡ refuse k why p) ↔ Row (width k) s at p.0 why

abbrev pub Excludes : Kind → Type 0
Excludes k = (s : List ℕ) (at : ℕ) →
    ((a b : Refusal) (p q : ℕ) → Row (width k) s at p a → Row (width k) s at q b → (a ≡ b) × (p ≡ q))
    × ((a : Refusal) (p : ℕ) (v : Value k) (n : ℕ) → Row (width k) s at p a → Begins (form k) (OfWidth k) s at v n → ⊥)

abbrev pub Exhausts : Kind → Type 0
Exhausts k = (s : List ℕ) (at : ℕ) → Bytes s →
    ((why : Refusal) × (p : ℕ) × Row (width k) s at p why) ⊎ ((v : Value k) × (n : ℕ) × Begins (form k) (OfWidth k) s at v n)

-- Where a byte stands at the place of a refusal, it decides: cut off just before it, the bytes are refused by 1, decided by their end; cut off
-- just behind it, as they were.
abbrev pub Decides : Kind → Type 0
Decides k = (s : List ℕ) (at : ℕ) (why : Refusal) (p : Place) → Bytes s → p.0 < length s → ReadsAs k s at (refuse k why p)
    → ReadsAs k (take p.0 s) at (refuse k End p) × ReadsAs k (take (p.0 + 1) s) at (refuse k why p)

-- A writer lays exactly the form of the number down.
abbrev pub Writes : Kind → Type 0
Writes k = (v : Value k) (before : List ℕ) (at : ℕ) (r : Written) (after : List ℕ) → WritesAs k v before at r after
    → LaysExactly (form k v) before at r after

-- The shortest unsigned form: one byte v if v < 128, else (v mod 128) + 128 followed by the form of v div 128.
abbrev pub Shortest : Type 0
Shortest = (v : ℕ) → (v < 128 → unsigned.form v ≡ v ∷ []) × (128 ≤ v → unsigned.form v ≡ (v % 128 + 128) ∷ unsigned.form (v / 128))

-- The most bytes of each width, which some number takes.
abbrev pub most_bytes : Kind → ℕ
most_bytes loop64 = 10
most_bytes recursive64 = 10
most_bytes unsigned32 = 5
most_bytes signed64 = 10

abbrev pub Most : Kind → Type 0
Most k = ((v : Value k) → OfWidth k v → length (form k v) ≤ most_bytes k) × ((v : Value k) × OfWidth k v × (length (form k v) ≡ most_bytes k))

abbrev pub zero_of : (k : Kind) → Value k
zero_of loop64 = 0
zero_of recursive64 = 0
zero_of unsigned32 = 0
zero_of signed64 = pos 0

-- g is the least number that takes n bytes, one more than the number before it.
pub record Grows (n g : ℕ) : Type 0 where
  pub takes : length (unsigned.form g) ≡ n
  pub before : length (unsigned.form (g - 1)) + 1 ≡ n
  pub least : (v : ℕ) → v < g → length (unsigned.form v) < n

-- The nine values at which a 64-bit number grows by a byte: the least numbers that take two bytes, three, and so on to ten; and there is no other
-- that takes one more than the number before it.
pub record GrowthValues : Type 0 where
  pub nine : length growth ≡ 9
  pub of_width : (i : ℕ) → i < 9 → get_or growth i 0 < 2 ^ 64
  pub each : (i : ℕ) → i < 9 → Grows (i + 2) (get_or growth i 0)
  pub no_other : (v : ℕ) → v < 2 ^ 64 → length (unsigned.form v) ≡ length (unsigned.form (v - 1)) + 1
      → (i : ℕ) × (i < 9) × (v ≡ get_or growth i 0)

-- A signed form of k bytes has the value of its 7k bits in two's complement.
abbrev pub TwosComplement : Type 0
TwosComplement = (g : List ℕ) →
    (digits g < 2 ^ (7 * length g - 1) → (signed.i64).value g ≡ pos (digits g))
    × (2 ^ (7 * length g - 1) ≤ digits g → (signed.i64).value g +ℤ pos (2 ^ (7 * length g)) ≡ pos (digits g))

-- -2^(7k-1) <= v < 2^(7k-1)
pub record Within (k : ℕ) (v : ℤ) : Type 0 where
  pub from : neg_ℤ (pos (2 ^ (7 * k - 1))) ≤ℤ v
  pub to : v <ℤ pos (2 ^ (7 * k - 1))

-- The shortest form has the value v, in the smallest k bytes that v lies within, and no other group has; so a last byte is one too many,
-- by document 01's rule, exactly where the form of the same value is shorter.
pub record SignedForm (v : ℤ) : Type 0 where
  pub is_group : Group (signed.form v)
  pub value : (signed.i64).value (signed.form v) ≡ v
  pub within : Within (length (signed.form v)) v
  pub smallest : (k : ℕ) → 0 < k → Within k v → length (signed.form v) ≤ k
  pub only : (g : List ℕ) → Group g → (signed.i64).value g ≡ v → length g ≡ length (signed.form v) → g ≡ signed.form v

abbrev pub OneTooMany : Type 0
OneTooMany = (g : List ℕ) → Group g → (is_too_many signed.i64 g ≡ true) ↔ (length (signed.form ((signed.i64).value g)) < length g)

-- Write then read gives the number back.
abbrev pub WriteRead : Kind → Type 0
WriteRead k = (v : Value k) (before : List ℕ) (at : ℕ) (n : Count) (after : List ℕ) (r : Reply k) → OfWidth k v
    → WritesAs k v before at (Ok n) after → ReadsAs k after at r → r ≡ number k v n

-- Read then write gives the bytes back.
abbrev pub ReadWrite : Kind → Type 0
ReadWrite k = (s : List ℕ) (at : ℕ) (v : Value k) (n : Count) (r : Written) (after : List ℕ) → Bytes s
    → ReadsAs k s at (number k v n) → WritesAs k v s at r after → (r ≡ Ok n) × (after ≡ s)

-- More bytes behind an accepted number change nothing.
abbrev pub MoreBehind : Kind → Type 0
MoreBehind k = (s more : List ℕ) (at : ℕ) (v : Value k) (n : Count) (r : Reply k) → Bytes s
    → ReadsAs k s at (number k v n) → ReadsAs k (s ++ more) at r → r ≡ number k v n

-- At least one byte is taken, and no more than are there.
abbrev pub SomeByte : Kind → Type 0
SomeByte k = (s : List ℕ) (at : ℕ) (v : Value k) (n : Count) → Bytes s → ReadsAs k s at (number k v n)
    → (0 < n.0) × (at + n.0 ≤ length s)

-- `spec_parse` gives what the reading gives, and nothing exactly where it refuses.
abbrev pub SpecParse : Type 0
SpecParse = (s : List ℕ) → Bytes s →
    ((v n : ℕ) → (spec_parse s ≡ some (n, v)) ↔ (read unsigned.u64 s 0 ≡ gives (v, n)))
    × ((spec_parse s ≡ none) ↔ ((why : Why) × (read unsigned.u64 s 0 ≡ refused why)))

-- Each promise is met by some answer, with some final content of what was lent, on every input: no claim over promises is empty.
pub record NumbersMet : Type 0 where
  pub number : (why : Refusal) → (n : ℕ) × Numbered why n
  pub room : (size at n : ℕ) → (r : Bool) × HasRoom size at n r
  pub walk : (s : List ℕ) (at : ℕ) → (r : Walked) × Walks s at r
  pub low_bits : (v : ℕ) → (r : ℕ) × TakesLow7Bits v r
  pub high_bit : (b : ℕ) → (r : Bool) × IsHigh8BitSet b r
  pub high_set : (b : ℕ) → (r : ℕ) × SetsHigh8Bit b r
  pub spelled : (v : ByKind) → (n : Count) × SpelledLength v n
  pub store : (v : ByKind) (s : List ℕ) (at : ℕ) → (r : Written) × (out : List ℕ) × Stores v s at r out
  pub reply : (k : Kind) (s : List ℕ) (at : ℕ) → (r : Reply k) × ReadsAs k s at r
  pub written : (k : Kind) (v : Value k) (s : List ℕ) (at : ℕ) → (r : Written) × (out : List ℕ) × WritesAs k v s at r out
  pub length : (k : Kind) (v : Value k) → (n : Count) × TakesAs k v n

-- And by no second: no second answer, and no second final content of what was lent.
pub record NumbersOne : Type 0 where
  pub number : (why : Refusal) (n m : ℕ) → Numbered why n → Numbered why m → n ≡ m
  pub room : (size at n : ℕ) (r r' : Bool) → HasRoom size at n r → HasRoom size at n r' → r ≡ r'
  pub walk : (s : List ℕ) (at : ℕ) (r r' : Walked) → Walks s at r → Walks s at r' → r ≡ r'
  pub low_bits : (v r r' : ℕ) → TakesLow7Bits v r → TakesLow7Bits v r' → r ≡ r'
  pub high_bit : (b : ℕ) (r r' : Bool) → IsHigh8BitSet b r → IsHigh8BitSet b r' → r ≡ r'
  pub high_set : (b r r' : ℕ) → SetsHigh8Bit b r → SetsHigh8Bit b r' → r ≡ r'
  pub spelled : (v : ByKind) (n m : Count) → SpelledLength v n → SpelledLength v m → n ≡ m
  pub store : (v : ByKind) (s : List ℕ) (at : ℕ) (r r' : Written) (out out' : List ℕ) → Stores v s at r out → Stores v s at r' out'
      → (r ≡ r') × (out ≡ out')
  pub reply : (k : Kind) (s : List ℕ) (at : ℕ) (r r' : Reply k) → ReadsAs k s at r → ReadsAs k s at r' → r ≡ r'
  pub written : (k : Kind) (v : Value k) (s : List ℕ) (at : ℕ) (r r' : Written) (out out' : List ℕ)
      → WritesAs k v s at r out → WritesAs k v s at r' out' → (r ≡ r') × (out ≡ out')
  pub length : (k : Kind) (v : Value k) (r r' : Count) → TakesAs k v r → TakesAs k v r' → r ≡ r'

pub record OfNumbers : Type 0 where
  -- readers
  pub accepts : (k : Kind) → Accepts k
  pub refuses : (k : Kind) → Refuses k
  pub excludes : (k : Kind) → Excludes k
  pub exhausts : (k : Kind) → Exhausts k
  pub decides : (k : Kind) → Decides k
  -- writers
  pub writes : (k : Kind) → Writes k
  -- lengths
  pub shortest : Shortest
  pub lengths : (k : Kind) (v : Value k) (n : Count) → TakesAs k v n → n.0 ≡ length (form k v)
  pub zero_takes_one : (k : Kind) → form k (zero_of k) ≡ 0 ∷ []
  pub most : (k : Kind) → Most k
  pub growth : GrowthValues
  -- signed forms
  pub twos_complement : TwosComplement
  pub signed_form : (v : ℤ) → SignedForm v
  pub one_too_many : OneTooMany
  -- loop and recursive forms
  pub read_alike : (s : List ℕ) (at : ℕ) (r r' : Reading ℕ) → ReadsU64 s at r → ReadsU64Rec s at r' → r ≡ r'
  pub write_alike : (v : ℕ) (s : List ℕ) (at : ℕ) (r r' : Written) (out out' : List ℕ) → WritesU64 v s at r out → WritesU64Rec v s at r' out'
      → (r ≡ r') × (out ≡ out')
  -- round trips
  pub write_read : (k : Kind) → WriteRead k
  pub read_write : (k : Kind) → ReadWrite k
  pub more_behind : (k : Kind) → MoreBehind k
  pub some_byte : (k : Kind) → SomeByte k
  -- the source's definitions
  pub source_parse : SpecParse
  pub source_serialize : (v : ℕ) → spec_serialize_helper v ≡ unsigned.form v
  -- bytes to try
  pub starred : Starred
  -- an answer, and no second
  pub met : NumbersMet
  pub one : NumbersOne
