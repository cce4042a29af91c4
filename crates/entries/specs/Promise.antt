-- What the functions of this crate promise.
--
--   EntryIs s m n v            the entry that stands at the place m of s has n bytes, and v is the verdict on it
--   FirstEntry s p v q         the entry of the least mark at p or later has the verdict v, and ends at q
--   EntryRefused               the row of each refusal without a place, in the order of the tests
--   ended v q                  the answer to an entry that ends at q: what it says, or 10, each with that place
--   Answered s p a             a is the answer to the block s and the place p
--   means_read_entry           what the reader's answer says
--   ReadsEntry s p r           reading an entry of the block s at the place p or later answers r
--   entry_form x               the bytes of an entry that says x: the mark, and the forms of its numbers
--   WritesEntry x s at r out   writing the entry x at the place of s answers r and leaves out: 10 and all as it was, or the form laid down
use Rattle.std.specs.Prelude.{ℕ, ◌+◌, ◌≤◌, ◌<◌, ◌≡◌, List, ◌++◌, length, drop, Result, Ok, Err}
use Rattle.words.specs.Answer.{Answer, gives, refused, because, because_at, Written}
use Rattle.words.specs.Lays.{Lays}
use Rattle.words.specs.declared.Refusal.{Refusal}
use Rattle.words.specs.declared.Refusal.TheVariants as Why
use Rattle.blocks.specs.Block.{block_limit}
use Rattle.blocks.specs.GroupsAndTail.{GroupAt}
use Rattle.entries.specs.Standing.{mark, NextMark, EntryAt}
use Rattle.entries.specs.Saying.{numbers_of, Absurd, Verdict, good, bad, Judged, forms_of}
use Rattle.entries.specs.declared.Entry.{Entry}
use Rattle.entries.specs.declared.ReadEntry.{ReadEntry}
use Rattle.entries.specs.declared.ReadEntry.TheVariants.{Good, Bad}

pub record EntryIs (s : List ℕ) (m n : ℕ) (v : Verdict) : Type 0 where
  pub bytes : List ℕ
  pub stands : EntryAt s m bytes
  pub count : n ≡ length bytes
  pub judged : Judged (drop 2 bytes) v

pub record FirstEntry (s : List ℕ) (p : ℕ) (v : Verdict) (q : ℕ) : Type 0 where
  pub place : ℕ
  pub count : ℕ
  pub first : NextMark s p place
  pub entry : EntryIs s place count v
  pub ends : q ≡ place + count

pub data EntryRefused (s : List ℕ) (p : ℕ) : Refusal → Type 0 where
  too_long : block_limit < length s → EntryRefused s p Why.TooLong
  past : length s ≤ block_limit → length s < p → EntryRefused s p Why.Place
  no_mark : length s ≤ block_limit → p ≤ length s → ((q : ℕ) → p ≤ q → GroupAt s q mark → ⊥) → EntryRefused s p Why.NoStart

abbrev pub ended : Verdict → ℕ → Answer (Entry × ℕ)
ended (good x) q = gives (x, q)
ended bad q = refused (because_at Why.Entry q)

pub data Answered (s : List ℕ) (p : ℕ) : Answer (Entry × ℕ) → Type 0 where
  row : {why : Refusal} → EntryRefused s p why → Answered s p (refused (because why))
  found : {v : Verdict} {q : ℕ} → length s ≤ block_limit → FirstEntry s p v q → Answered s p (ended v q)

abbrev pub means_read_entry : Result ReadEntry Refusal → Answer (Entry × ℕ)
means_read_entry (Ok (Good x q)) = gives (x, q.0)
means_read_entry (Ok (Bad why q)) = refused (because_at why q.0)
means_read_entry (Err why) = refused (because why)

pub record ReadsEntry (s : List ℕ) (p : ℕ) (r : Result ReadEntry Refusal) : Type 0 where
  pub answer : Answered s p (means_read_entry r)

abbrev pub entry_form : Entry → List ℕ
entry_form x = mark ++ forms_of (numbers_of x)

pub data WritesEntry (x : Entry) (s : List ℕ) (at : ℕ) (r : Written) (out : List ℕ) : Type 0 where
  absurd_turn : Absurd x.turn → r ≡ Err Why.Entry → out ≡ s → WritesEntry x s at r out
  sensible_turn : (Absurd x.turn → ⊥) → Lays (entry_form x) s at r out → WritesEntry x s at r out
