-- What is claimed of entries: document 02, #102 and #111. Where an entry stands is entries/specs/Standing.antt, what it says is
-- entries/specs/Saying.antt, and the rows of the refusals stand beside the promise there. Damage: a stretch x of the block a ++ x ++ b is replaced by
-- y, any of them empty.
--
--   GoodRead, BadRead           a good entry is given, and 10 for a bad one, exactly when the first entry from the place on is that
--   RefusesEntry                7, 4 and 8 are given exactly by their rows
--   OfWidths x                  the numbers of x are of their widths
--   EntryTries                  bytes to try
--   GoodForm                    the bytes of a good entry are exactly the form of what it says, with no absurd turn,
--   OneForm                     and that is the form of nothing else
--   AbsurdRead                  10 is the answer to an entry that is such a form but for its absurd turn
--   WritesEntries               the writer: 10 for an absurd turn, else that form at the place and all else kept, or 5
--   WrittenBack                 an entry written alone reads back
--   RefusedUnread               and one refused by 10 would not have
--   EntryOfMark                 each mark opens one entry
--   EntriesInOrder              entries read one after another from a place on are those of the marks from there on, in order, and no other
--   MarkUnread                  a step and the listing still call a mark NotShortest, decided by its second byte
--   EntryFront, EntryBack       where entries stand, good and bad alike, and what a reader answers there
--   SameMoved n n'              the same answer, the place where the entry ends moved by the change in length from n to n'
--   EntriesFront, EntriesBack   what a reader gives of the whole block: the entries in each of the two parts are the same list
--   EntriesMet, EntriesOne      an answer meets each promise, and no second
--   OfEntries                   all of it
use Rattle.std.specs.Prelude.{ℕ, ◌+◌, ◌≤◌, ◌<◌, ◌≡◌, List, [], ◌∷◌, ◌++◌, ◌↔◌, pos, neg_ℤ, length, take, drop, Ok, Err, Result}
use Rattle.words.specs.Answer.{refused, because_at, Written}
use Rattle.words.specs.Lays.{LaysExactly}
use Rattle.words.specs.declared.Count.{Count}
use Rattle.words.specs.declared.Place.{Place}
use Rattle.words.specs.declared.Refusal.{Refusal}
use Rattle.words.specs.declared.Refusal.TheVariants as Why
use Rattle.groups.specs.Group.{run, Bytes}
use Rattle.blocks.specs.Block.{read_by, block_limit}
use Rattle.blocks.specs.GroupsAndTail.{GroupAt}
use Rattle.blocks.specs.Places.{ending, from, less}
use Rattle.blocks.specs.Readings.{Block}
use Rattle.blocks.specs.declared.Rule.{Rule}
use Rattle.entries.specs.Standing.{mark, EntryAt}
use Rattle.entries.specs.Saying.{Absurd, Good, Verdict, good, bad, Judged}
use Rattle.entries.specs.Promise.{FirstEntry, EntryRefused, ReadsEntry, entry_form, WritesEntry}
use Rattle.entries.specs.Given.{EntriesGiven, EntriesFrom}
use Rattle.entries.specs.declared.Entry.{Entry}
use Rattle.entries.specs.declared.ReadEntry.{ReadEntry}
use Rattle.entries.specs.declared.ReadEntry.TheVariants as R
use Rattle.claims.specs.Kinds.{loop64, signed64, OfWidth}

-- A good entry is given exactly when the block is within the limit, and the entry of the least mark at the place or later is good, says that
-- and ends there;
abbrev pub GoodRead : Type 0
GoodRead = (s : List ℕ) (p : ℕ) (r : Result ReadEntry Refusal) → ReadsEntry s p r
    → (x : Entry) (q : Place) → (r ≡ Ok (R.Good x q)) ↔ ((length s ≤ block_limit) × FirstEntry s p (good x) q.0)

-- 10, with the place where it ends, exactly when it is bad;
abbrev pub BadRead : Type 0
BadRead = (s : List ℕ) (p : ℕ) (r : Result ReadEntry Refusal) → ReadsEntry s p r
    → (why : Refusal) (q : Place) → (r ≡ Ok (R.Bad why q)) ↔ ((why ≡ Why.Entry) × (length s ≤ block_limit) × FirstEntry s p bad q.0)

-- and each other refusal exactly when its row holds.
abbrev pub RefusesEntry : Type 0
RefusesEntry = (s : List ℕ) (p : ℕ) (r : Result ReadEntry Refusal) → ReadsEntry s p r → (why : Refusal) → (r ≡ Err why) ↔ EntryRefused s p why

-- Bytes to try: behind a mark, 01 02 7f is a good entry, and its turn is -1; with a tail behind it, or a fourth group, or without its third, it is
-- bad. Turns of 400 and of -400 pass, 401 and -401 don't. In 81 80 00 no mark stands.
pub record EntryTries : Type 0 where
  pub three_groups : Judged (0x01 ∷ 0x02 ∷ 0x7f ∷ []) (good (record { segment = 1; sentence = 2; turn = neg_ℤ (pos 1) }))
  pub with_a_tail : Judged (0x01 ∷ 0x02 ∷ 0x7f ∷ 0x80 ∷ []) bad
  pub with_a_fourth : Judged (0x01 ∷ 0x02 ∷ 0x7f ∷ 0x03 ∷ []) bad
  pub without_the_third : Judged (0x01 ∷ 0x02 ∷ []) bad
  pub turn_of_400 : Judged (0x01 ∷ 0x02 ∷ 0x90 ∷ 0x03 ∷ []) (good (record { segment = 1; sentence = 2; turn = pos 400 }))
  pub turn_of_401 : Judged (0x01 ∷ 0x02 ∷ 0x91 ∷ 0x03 ∷ []) bad
  pub turn_of_minus_400 : Judged (0x01 ∷ 0x02 ∷ 0xf0 ∷ 0x7c ∷ []) (good (record { segment = 1; sentence = 2; turn = neg_ℤ (pos 400) }))
  pub turn_of_minus_401 : Judged (0x01 ∷ 0x02 ∷ 0xef ∷ 0x7c ∷ []) bad
  pub in_a_longer_group : (q : ℕ) → GroupAt (0x81 ∷ 0x80 ∷ 0x00 ∷ []) q mark → ⊥

pub record OfWidths (x : Entry) : Type 0 where
  pub segment : OfWidth loop64 x.segment
  pub sentence : OfWidth loop64 x.sentence
  pub turn : OfWidth signed64 x.turn

-- The bytes of a good entry are exactly the form of its numbers, each of its width, with no absurd turn,
abbrev pub GoodForm : Type 0
GoodForm = (s : List ℕ) (p : ℕ) (e : List ℕ) → EntryAt s p e → (x : Entry) → Good (drop 2 e) x ↔ (OfWidths x × (Absurd x.turn → ⊥) × (e ≡ entry_form x))

-- and of no others.
abbrev pub OneForm : Type 0
OneForm = (x y : Entry) → OfWidths x → OfWidths y → entry_form x ≡ entry_form y → x ≡ y

-- An entry whose numbers all read, with an absurd turn, is refused by 10, with the place where it ends.
abbrev pub AbsurdRead : Type 0
AbsurdRead = (s : List ℕ) (p : ℕ) (x : Entry) (r : Result ReadEntry Refusal) → length s ≤ block_limit → OfWidths x → Absurd x.turn
    → EntryAt s p (entry_form x) → ReadsEntry s p r → r ≡ Ok (R.Bad Why.Entry (record { 0 = p + length (entry_form x) }))

-- The writer answers 10 and leaves every byte exactly when the turn is absurd, whatever the room. Else it answers the count and leaves exactly the
-- entry's form at the place and all else kept, or answers 5 and leaves every byte, the latter exactly when it doesn't fit.
abbrev pub WritesEntries : Type 0
WritesEntries = (x : Entry) (before : List ℕ) (at : ℕ) (r : Written) (after : List ℕ) → WritesEntry x before at r after →
    (Absurd x.turn ↔ ((r ≡ Err Why.Entry) × (after ≡ before)))
    × ((Absurd x.turn → ⊥) → LaysExactly (entry_form x) before at r after)

-- The bytes that were written, read alone, are that entry, and it ends with them.
abbrev pub WrittenBack : Type 0
WrittenBack = (x : Entry) (before : List ℕ) (at : ℕ) (n : Count) (after : List ℕ) (r : Result ReadEntry Refusal) → OfWidths x
    → WritesEntry x before at (Ok n) after → ReadsEntry (take n.0 (drop at after)) 0 r → r ≡ Ok (R.Good x (record { 0 = n.0 }))

-- What the writer refuses by 10 would not have read back: its form, read alone, is bad, and no bytes are read as that entry.
abbrev pub RefusedUnread : Type 0
RefusedUnread = (x : Entry) (before : List ℕ) (at : ℕ) (after : List ℕ) → OfWidths x → WritesEntry x before at (Err Why.Entry) after →
    ((r : Result ReadEntry Refusal) → ReadsEntry (entry_form x) 0 r → r ≡ Ok (R.Bad Why.Entry (record { 0 = length (entry_form x) })))
    × ((s : List ℕ) (p : ℕ) (q : Place) → ReadsEntry s p (Ok (R.Good x q)) → ⊥)

-- Each mark opens one entry, and nothing else opens one.
abbrev pub EntryOfMark : Type 0
EntryOfMark = (s : List ℕ) (m : ℕ) → (GroupAt s m mark ↔ ((e : List ℕ) × EntryAt s m e)) × ((e f : List ℕ) → EntryAt s m e → EntryAt s m f → e ≡ f)

-- A reader that begins at a place, anywhere in the block, and goes on where each entry ends gives exactly the entries of the marks at that place
-- or later, in order, each with its bytes and the verdict on it.
abbrev pub EntriesInOrder : Type 0
EntriesInOrder = (s : List ℕ) (p : ℕ) (l : List (ℕ × ℕ × Verdict)) → Block s → p ≤ length s → EntriesGiven s p l ↔ EntriesFrom s p l

-- Read as a number, by either rule, a mark is refused by 3, decided by its second byte: for a step it is a gap, and so it is in the listing.
abbrev pub MarkUnread : Type 0
MarkUnread = (rule : Rule) → read_by rule mark ≡ refused (because_at Why.NotShortest 1)

-- An entry whose following mark ends before the stretch stands and reads as before, and no other appears there.
abbrev pub EntryFront : Type 0
EntryFront = (a x y b : List ℕ) (p : ℕ) (e : List ℕ) → p + length e + 2 ≤ length a →
    (EntryAt (a ++ x ++ b) p e ↔ EntryAt (a ++ y ++ b) p e)
    × ((r r' : Result ReadEntry Refusal) → Block (a ++ x ++ b) → Block (a ++ y ++ b) → EntryAt (a ++ x ++ b) p e
    → ReadsEntry (a ++ x ++ b) p r → ReadsEntry (a ++ y ++ b) p r' → r ≡ r')

pub data SameMoved (n n' : ℕ) : Result ReadEntry Refusal → Result ReadEntry Refusal → Type 0 where
  good_moved : {x : Entry} {q q' : Place} → q'.0 + n ≡ q.0 + n' → SameMoved n n' (Ok (R.Good x q)) (Ok (R.Good x q'))
  bad_moved : {q q' : Place} → q'.0 + n ≡ q.0 + n' → SameMoved n n' (Ok (R.Bad Why.Entry q)) (Ok (R.Bad Why.Entry q'))

-- An entry whose mark begins after the first byte below 128 past the stretch stands and reads as before, its places moved only by the change in
-- length, and no other appears there.
abbrev pub EntryBack : Type 0
EntryBack = (a x y b : List ℕ) (p p' : ℕ) (e : List ℕ) → length (a ++ x) + run b < p → p' + length x ≡ p + length y →
    (EntryAt (a ++ x ++ b) p e ↔ EntryAt (a ++ y ++ b) p' e)
    × ((r r' : Result ReadEntry Refusal) → Block (a ++ x ++ b) → Block (a ++ y ++ b) → EntryAt (a ++ x ++ b) p e
    → ReadsEntry (a ++ x ++ b) p r → ReadsEntry (a ++ y ++ b) p' r' → SameMoved (length x) (length y) r r')

-- All that a reader gives of the old block and of the new one: the entries whose following marks end before the stretch are the same list,
abbrev pub EntriesFront : Type 0
EntriesFront = (a x y b : List ℕ) (l l' : List (ℕ × ℕ × Verdict)) → EntriesGiven (a ++ x ++ b) 0 l → EntriesGiven (a ++ y ++ b) 0 l'
    → ending 2 (length a) l ≡ ending 2 (length a) l'

-- and those whose marks begin after the first byte below 128 past the stretch are the same list, with places counted from there.
abbrev pub EntriesBack : Type 0
EntriesBack = (a x y b : List ℕ) (l l' : List (ℕ × ℕ × Verdict)) → EntriesGiven (a ++ x ++ b) 0 l → EntriesGiven (a ++ y ++ b) 0 l'
    → less (length (a ++ x) + run b + 1) (from (length (a ++ x) + run b + 1) l)
    ≡ less (length (a ++ y) + run b + 1) (from (length (a ++ y) + run b + 1) l')

-- Each promise is met by some answer, with some final content of what was lent, on every input: no claim over promises is empty.
pub record EntriesMet : Type 0 where
  pub read : (s : List ℕ) (p : ℕ) → Bytes s → (r : Result ReadEntry Refusal) × ReadsEntry s p r
  pub write : (x : Entry) (s : List ℕ) (at : ℕ) → (r : Written) × (out : List ℕ) × WritesEntry x s at r out

-- And by no second: no second answer, and no second final content of what was lent.
pub record EntriesOne : Type 0 where
  pub read : (s : List ℕ) (p : ℕ) (r r' : Result ReadEntry Refusal) → ReadsEntry s p r → ReadsEntry s p r' → r ≡ r'
  pub write : (x : Entry) (s : List ℕ) (at : ℕ) (r r' : Written) (out out' : List ℕ) → WritesEntry x s at r out → WritesEntry x s at r' out'
      → (r ≡ r') × (out ≡ out')

pub record OfEntries : Type 0 where
  pub entry_good : GoodRead
  pub entry_bad : BadRead
  pub entry_refuses : RefusesEntry
  pub entry_tries : EntryTries
  pub good_form : GoodForm
  pub one_form : OneForm
  pub absurd_read : AbsurdRead
  pub entry_written : WritesEntries
  pub written_back : WrittenBack
  pub refused_unread : RefusedUnread
  pub entry_of_mark : EntryOfMark
  pub entries_in_order : EntriesInOrder
  pub mark_unread : MarkUnread
  pub entry_front : EntryFront
  pub entry_back : EntryBack
  pub entries_front : EntriesFront
  pub entries_back : EntriesBack
  pub met : EntriesMet
  pub one : EntriesOne
