-- What is claimed of setting slips: document 02, #104. A setting is spoken of as its kind and its words, which are the bits of its floats.
--
--   BadFloat, Bad                                          what makes a setting bad
--   Words ms ws                                            there is a word of 32 bits for each measure
--   Good                                                   a kind that there is, with the words of its measures, and not bad
--   SlipRow                                                the row of each refusal of the reader, in the order of the tests
--   AcceptsSlip, RefusesSlip, ExcludesSlip, ExhaustsSlip   the reader
--   WritesSlip                                             the writer
--   SlipWriteRead, SlipReadWrite, SlipSpelled, OneSlip     the bits come back as they went, and how they are spelled
--   SlipLength                                             the kind fixes how many bytes those are
--   SlipBehind                                             bytes behind a body are not looked at
--   InRange, NoNumber                                      whether a torque lies in a range
--   SlipsMet, SlipsOne                                     an answer meets each promise, and no second
--   OfSlips                                                all of it
use Rattle.std.specs.Prelude.{ℕ, ◌+◌, ◌*◌, ◌≤◌, ◌<◌, ◌^◌, Bool, true, false, List, ◌∷◌, ◌++◌, ◌↔◌, ◌⊎◌, ◌≡◌, Float, pos, length, get_or, take, drop, Result, Ok, Err}
use Rattle.std.specs.Float.{nan, inf, fin, binary32}
use Rattle.std.specs.Float.Ieee.{of_bits, lt}
use Rattle.words.specs.Answer.{gives, Written}
use Rattle.words.specs.Lays.{LaysExactly}
use Rattle.words.specs.declared.Count.{Count}
use Rattle.words.specs.declared.Refusal.{Refusal}
use Rattle.words.specs.declared.Refusal.TheVariants.{End, Place, Slip}
use Rattle.groups.specs.Begins.{Begins}
use Rattle.groups.specs.Group.{Bytes}
use Rattle.slips.specs.Good.{Measure, torque}
use Rattle.slips.specs.Slip.{measures, body_length, form}
use Rattle.slips.specs.Promise.{means_setting, F32, means_read_setting, ReadsSetting, WritesSetting, Within, LiesInRange}
use Rattle.slips.specs.declared.Range.{Range}
use Rattle.slips.specs.declared.Setting.{Setting}

-- "11 for an infinity or not-a-number, for minus zero, for a torque below zero, and for a lowest above the highest."
pub data BadFloat (m : Measure) (x : Float) : Type 0 where
  not_a_number : x ≡ nan → BadFloat m x
  infinite : (below : Bool) → x ≡ inf below → BadFloat m x
  minus_zero : x ≡ fin true 0 (pos 0) → BadFloat m x
  torque_below_zero : m ≡ torque → lt x (fin false 0 (pos 0)) ≡ true → BadFloat m x

pub data Bad : List Measure → List ℕ → Type 0 where
  bad_float : {m : Measure} {ms : List Measure} {w : ℕ} {ws : List ℕ} → BadFloat m (of_bits binary32 w) → Bad (m ∷ ms) (w ∷ ws)
  lowest_above : {m m' : Measure} {ms : List Measure} {low high : ℕ} {ws : List ℕ} → lt (of_bits binary32 high) (of_bits binary32 low) ≡ true
      → Bad (m ∷ m' ∷ ms) (low ∷ high ∷ ws)
  later : {m : Measure} {ms : List Measure} {w : ℕ} {ws : List ℕ} → Bad ms ws → Bad (m ∷ ms) (w ∷ ws)

pub record Words (ms : List Measure) (ws : List ℕ) : Type 0 where
  pub as_many : length ws ≡ length ms
  pub bits : (i : ℕ) → get_or ws i 0 < 2 ^ 32

pub record Good (v : ℕ × List ℕ) : Type 0 where
  pub known : v.0 ≤ 3
  pub words : Words (measures v.0) v.1
  pub not_bad : Bad (measures v.0) v.1 → ⊥

pub data SlipRow (s : List ℕ) (at : ℕ) : Refusal → Type 0 where
  past : length s < at → SlipRow s at Place
  no_byte : length s ≡ at → SlipRow s at End
  unknown_kind : (kind : ℕ) (rest : List ℕ) → drop at s ≡ kind ∷ rest → 3 < kind → SlipRow s at Slip
  short_body : (kind : ℕ) (rest : List ℕ) → drop at s ≡ kind ∷ rest → kind ≤ 3 → length rest < body_length (measures kind) → SlipRow s at End
  bad : (kind : ℕ) (ws rest : List ℕ) → drop at s ≡ form (kind, ws) ++ rest → kind ≤ 3 → Words (measures kind) ws → Bad (measures kind) ws
      → SlipRow s at Slip

-- The reader accepts exactly when the bytes from the start begin with the form of a good setting, and gives that setting and the form's length.
abbrev pub AcceptsSlip : Type 0
AcceptsSlip = (s : List ℕ) (at : ℕ) (r : Result (Setting × Count) Refusal) → Bytes s → ReadsSetting s at r
    → (v : ℕ × List ℕ) (n : ℕ) → (means_read_setting r ≡ gives (v, n)) ↔ Begins form Good s at v n

-- It refuses by a number exactly when a row of that number holds; no two numbers have one, nor any where it accepts; and one has, or it accepts.
abbrev pub RefusesSlip : Type 0
RefusesSlip = (s : List ℕ) (at : ℕ) (r : Result (Setting × Count) Refusal) → Bytes s → ReadsSetting s at r → (why : Refusal) → (r ≡ Err why) ↔ SlipRow s at why

abbrev pub ExcludesSlip : Type 0
ExcludesSlip = (s : List ℕ) (at : ℕ) →
    ((a b : Refusal) → SlipRow s at a → SlipRow s at b → a ≡ b)
    × ((a : Refusal) (v : ℕ × List ℕ) (n : ℕ) → SlipRow s at a → Begins form Good s at v n → ⊥)

abbrev pub ExhaustsSlip : Type 0
ExhaustsSlip = (s : List ℕ) (at : ℕ) → Bytes s →
    ((why : Refusal) × SlipRow s at why) ⊎ ((v : ℕ × List ℕ) × (n : ℕ) × Begins form Good s at v n)

-- A setting that is not good is refused by 11, and nothing else is; the form of any other is written as that of a number is.
abbrev pub WritesSlip : Type 0
WritesSlip = (v : Setting) (before : List ℕ) (at : ℕ) (r : Written) (after : List ℕ) → WritesSetting v before at r after →
    ((Good (means_setting v) → ⊥) ↔ ((r ≡ Err Slip) × (after ≡ before)))
    × (Good (means_setting v) → LaysExactly (form (means_setting v)) before at r after)

-- What was written reads back as the same setting, bit for bit; what was read, written where it stood, changes no byte.
abbrev pub SlipWriteRead : Type 0
SlipWriteRead = (v : Setting) (before : List ℕ) (at : ℕ) (n : Count) (after : List ℕ) (r : Result (Setting × Count) Refusal) → F32 v
    → WritesSetting v before at (Ok n) after → ReadsSetting after at r → r ≡ Ok (v, n)

abbrev pub SlipReadWrite : Type 0
SlipReadWrite = (s : List ℕ) (at : ℕ) (v : Setting) (n : Count) (r : Written) (after : List ℕ) → Bytes s
    → ReadsSetting s at (Ok (v, n)) → WritesSetting v s at r after → (r ≡ Ok n) × (after ≡ s)

-- A setting is read from no bytes but its form: it has one spelling,
abbrev pub SlipSpelled : Type 0
SlipSpelled = (s : List ℕ) (at : ℕ) (v : Setting) (n : Count) → Bytes s → ReadsSetting s at (Ok (v, n))
    → take n.0 (drop at s) ≡ form (means_setting v)

-- and a spelling has one setting, whatever stands behind it.
abbrev pub OneSlip : Type 0
OneSlip = (v w : ℕ × List ℕ) (rest rest' : List ℕ) → Good v → Good w → form v ++ rest ≡ form w ++ rest' → (v ≡ w) × (rest ≡ rest')

-- The kind fixes how many bytes a slip has: one, and four for each of its measures.
abbrev pub SlipLength : Type 0
SlipLength = (v : ℕ × List ℕ) → Good v → length (form v) ≡ 1 + 4 * length (measures v.0)

-- More bytes behind change neither a setting nor a refusal by 11.
abbrev pub SlipBehind : Type 0
SlipBehind = (s more : List ℕ) (at : ℕ) (q r : Result (Setting × Count) Refusal) → Bytes s → ReadsSetting s at q → ReadsSetting (s ++ more) at r
    → ((v : Setting) (n : Count) → q ≡ Ok (v, n) → r ≡ Ok (v, n)) × (q ≡ Err Slip → r ≡ Err Slip)

-- The answer is yes exactly when the torque is neither under the lowest nor over the highest; a not-a-number among the three gets no.
abbrev pub InRange : Type 0
InRange = (t : Float) (range : Range) (r : Bool) → LiesInRange t range r → (r ≡ true) ↔ Within t range

abbrev pub NoNumber : Type 0
NoNumber = (t : Float) (range : Range) (r : Bool) → LiesInRange t range r → (t ≡ nan) ⊎ ((range.lowest ≡ nan) ⊎ (range.highest ≡ nan)) → r ≡ false

-- Each promise is met by some answer, with some final content of what was lent, on every input: no claim over promises is empty.
pub record SlipsMet : Type 0 where
  pub setting : (s : List ℕ) (at : ℕ) → (r : Result (Setting × Count) Refusal) × ReadsSetting s at r
  pub written : (v : Setting) (s : List ℕ) (at : ℕ) → (r : Written) × (out : List ℕ) × WritesSetting v s at r out
  pub in_range : (t : Float) (range : Range) → (r : Bool) × LiesInRange t range r

-- And by no second: no second answer, and no second final content of what was lent.
pub record SlipsOne : Type 0 where
  pub setting : (s : List ℕ) (at : ℕ) (r r' : Result (Setting × Count) Refusal) → ReadsSetting s at r → ReadsSetting s at r' → r ≡ r'
  pub written : (v : Setting) (s : List ℕ) (at : ℕ) (r r' : Written) (out out' : List ℕ) → WritesSetting v s at r out → WritesSetting v s at r' out'
      → (r ≡ r') × (out ≡ out')
  pub in_range : (t : Float) (range : Range) (r r' : Bool) → LiesInRange t range r → LiesInRange t range r' → r ≡ r'

pub record OfSlips : Type 0 where
  pub slip_accepts : AcceptsSlip
  pub slip_refuses : RefusesSlip
  pub slip_excludes : ExcludesSlip
  pub slip_exhausts : ExhaustsSlip
  pub slip_writes : WritesSlip
  pub slip_write_read : SlipWriteRead
  pub slip_read_write : SlipReadWrite
  pub slip_spelled : SlipSpelled
  pub one_slip : OneSlip
  pub slip_length : SlipLength
  pub slip_behind : SlipBehind
  pub in_range : InRange
  pub no_number : NoNumber
  pub met : SlipsMet
  pub one : SlipsOne
