-- Document 02, #102 and #111: what an entry says. Nothing here knows where an entry stands. Below, l is the bytes behind its mark.
--
--   Field              how a field's group is read: its number, or a refusal
--   fields             the fields of an entry, in their order: segment, sentence, turn
--   Says fs l vs rest  the bytes l begin with one group for each of the fields fs, in order; each reads, vs are the numbers, and rest stands behind
--   numbers_of x       the numbers of the entry x, in the order of its fields
--   Absurd t           the turn t is above 400 or below -400
--   SaysEntry l x rest the bytes l begin with the numbers of the entry x, whose turn isn't absurd, and rest stands behind
--   Good l x           the bytes l are those of a good entry, which says x: nothing stands behind its numbers
--   Verdict            what there is to say of an entry: good, with what it says; or bad
--   Judged l v         v is the verdict on the bytes l
--   form_of, forms_of  the shortest form of a number, and those of several, one after another
use Rattle.std.specs.Prelude.{ℕ, ◌≡◌, List, [], ◌∷◌, ◌++◌, ◌⊎◌, ℤ, pos, neg_ℤ, ◌<ℤ◌}
use Rattle.words.specs.Answer.{Answer, gives}
use Rattle.groups.specs.Group.{Group}
use Rattle.uleb128.specs.Unsigned.{form as unsignedForm}
use Rattle.sleb128.specs.Signed.{form as signedForm}
use Rattle.blocks.specs.Block.{Val, unsigned, signed, read_by}
use Rattle.blocks.specs.declared.Rule.TheVariants.{Unsigned, Signed}
use Rattle.entries.specs.declared.Entry.{Entry}

abbrev pub Field : Type 0
Field = List ℕ → Answer Val

abbrev pub fields : List Field
fields = read_by Unsigned ∷ read_by Unsigned ∷ read_by Signed ∷ []

pub data Says : List Field → List ℕ → List Val → List ℕ → Type 0 where
  nothing : {l : List ℕ} → Says [] l [] l
  field : {f : Field} {fs : List Field} {g more l rest : List ℕ} {v : Val} {vs : List Val}
      → Group g → f g ≡ gives v → Says fs more vs rest → l ≡ g ++ more → Says (f ∷ fs) l (v ∷ vs) rest

abbrev pub numbers_of : Entry → List Val
numbers_of x = unsigned x.segment ∷ unsigned x.sentence ∷ signed x.turn ∷ []

abbrev pub Absurd : ℤ → Type 0
Absurd t = (pos 400 <ℤ t) ⊎ (t <ℤ neg_ℤ (pos 400))

pub record SaysEntry (l : List ℕ) (x : Entry) (rest : List ℕ) : Type 0 where
  pub says : Says fields l (numbers_of x) rest
  pub sensible : Absurd x.turn → ⊥

abbrev pub Good : List ℕ → Entry → Type 0
Good l x = SaysEntry l x []

pub data Verdict : Type 0 where
  good : Entry → Verdict
  bad : Verdict

pub data Judged (l : List ℕ) : Verdict → Type 0 where
  is_good : {x : Entry} → Good l x → Judged l (good x)
  is_bad : ((x : Entry) → Good l x → ⊥) → Judged l bad

abbrev pub form_of : Val → List ℕ
form_of (unsigned v) = unsignedForm v
form_of (signed v) = signedForm v

abbrev pub forms_of : List Val → List ℕ
forms_of [] = []
forms_of (v ∷ vs) = form_of v ++ forms_of vs
