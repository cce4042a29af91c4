-- The promise of `read_entry` is met by one answer on every block, at every place.
--
--   entry_bytes    the bytes of an entry behind its mark are bytes
--   one_is         one entry stands at a place, with one verdict on it
--   one_first      the first entry from a place on has one verdict and one end
--   one_row        no two rows hold
--   one_answered   no second answer
--   same_entry     answers that mean the same are the same
--   answer_of      the reader's answer to an entry that ends at a place; `answer_means`: what it says; `reads_first`: it keeps the promise
--   some_is        at each mark stands an entry with a verdict
--   some_answer    some answer there is
--   ended_same     an answer to an entry tells its verdict and the place where it ends
--   first_of       what an answer to an entry rests on; `refused_by`: what a refusal does
use Prim.Native.Nat.{ℕ, zero, suc, ◌+◌, ◌≤◌}
use mathlib.Core.List.{List, [], ◌∷◌}
use mathlib.Core.Path.{◌≡◌, refl, ap, sym, ◌∙◌, subst}
use native.Mathlib.Omega.{arith}
use lib.ListN.{length, take, drop}
use lib.Seq.{get_or-drop}
use Rattle.std.specs.Prelude.{Result, Ok, Err}
use Rattle.words.specs.Answer.{Answer, gives, refused, because, by, by_at}
use Rattle.words.specs.declared.Refusal.{Refusal}
use Rattle.words.specs.declared.Refusal.TheVariants as Why
use Rattle.words.proofs.Cases.{by_order}
use Rattle.words.proofs.OneMeaning.{same_by, apart, refused_same, given_value, given_count}
use Rattle.words.proofs.OneNumber.{refusal_of, refusal_back}
use Rattle.groups.specs.Group.{Bytes}
use Rattle.blocks.specs.Block.{block_limit}
use Rattle.blocks.specs.GroupsAndTail.{GroupAt}
use Rattle.entries.specs.Standing.{mark, EntryAt}
use Rattle.entries.specs.Saying.{Verdict, good, bad, Judged}
use Rattle.entries.specs.Promise.{EntryIs, FirstEntry, EntryRefused, too_long, past, no_mark, ended, Answered, row, found, means_read_entry, ReadsEntry}
use Rattle.entries.specs.declared.Entry.{Entry}
use Rattle.entries.specs.declared.ReadEntry.{ReadEntry}
use Rattle.entries.specs.declared.ReadEntry.TheVariants.{Good, Bad}
use Rattle.entries.proofs.NextMarks.{next_within, next_is, next_none, one_next, some_next}
use Rattle.entries.proofs.Standing.{one_entry, some_entry}
use Rattle.entries.proofs.SaysGroups.{one_verdict, some_verdict}

bytes_take : (n : ℕ) (l : List ℕ) → Bytes l → Bytes (take n l)
bytes_take zero l h i = omega arith
bytes_take (suc n) [] h i = omega arith
bytes_take (suc n) (b ∷ l) h zero = h 0
bytes_take (suc n) (b ∷ l) h (suc i) = bytes_take n l (λ j. h (suc j)) i

bytes_drop : (n : ℕ) (l : List ℕ) → Bytes l → Bytes (drop n l)
bytes_drop n l h i = rw (get_or-drop n l i 0) (h (n + i))

pub entry_bytes : {s : List ℕ} {p : ℕ} {e : List ℕ} → Bytes s → EntryAt s p e → Bytes (drop 2 e)
entry_bytes {s} {p} {e} bytes k = bytes_drop 2 e (subst Bytes k.there (bytes_take (length e) (drop p s) (bytes_drop p s bytes)))

pub one_is : {s : List ℕ} {m n n' : ℕ} {v v' : Verdict} → EntryIs s m n v → EntryIs s m n' v' → (n ≡ n') × (v ≡ v')
one_is {v = v} k j =
    let e : k.bytes ≡ j.bytes = one_entry k.stands j.stands in
    (k.count ∙ ap length e ∙ sym j.count, one_verdict (subst (λ (l : List ℕ). Judged (drop 2 l) v) e k.judged) j.judged)

same_ended : {v v' : Verdict} {q q' : ℕ} → v ≡ v' → q ≡ q' → ended v q ≡ ended v' q'
same_ended e i = rw (e, i)

module _ {s : List ℕ} {p : ℕ} where
  pub one_first : {v v' : Verdict} {q q' : ℕ} → FirstEntry s p v q → FirstEntry s p v' q' → (v ≡ v') × (q ≡ q')
  one_first {v} f g =
      let m : f.place ≡ g.place = one_next f.first g.first in
      let w = one_is (subst (λ (i : ℕ). EntryIs s i f.count v) m f.entry) g.entry in
      (w.1, omega (arith, f.ends, g.ends, m, w.0))

  pub one_row : {a b : Refusal} → EntryRefused s p a → EntryRefused s p b → a ≡ b
  one_row (too_long h) (too_long k) = refl
  one_row (too_long h) (past k l) = absurd (omega arith)
  one_row (too_long h) (no_mark k l n) = absurd (omega arith)
  one_row (past h i) (too_long k) = absurd (omega arith)
  one_row (past h i) (past k l) = refl
  one_row (past h i) (no_mark k l n) = absurd (omega arith)
  one_row (no_mark h i m) (too_long k) = absurd (omega arith)
  one_row (no_mark h i m) (past k l) = absurd (omega arith)
  one_row (no_mark h i m) (no_mark k l n) = refl

  no_row : {X : Type 0} {why : Refusal} {v : Verdict} {q : ℕ} → length s ≤ block_limit → FirstEntry s p v q → EntryRefused s p why → X
  no_row h f (too_long k) = absurd (omega arith)
  no_row h f (past k l) = absurd (omega (arith, f.first.from, next_within f.first))
  no_row h f (no_mark k l none) = absurd (none f.place f.first.from f.entry.stands.opens)

  pub one_answered : {a b : Answer (Entry × ℕ)} → Answered s p a → Answered s p b → a ≡ b
  one_answered (row x) (row y) = ap (λ why. refused (because why)) (one_row x y)
  one_answered (row x) (found h f) = no_row h f x
  one_answered (found h f) (row y) = no_row h f y
  one_answered (found h f) (found k g) = let w = one_first f g in same_ended w.0 w.1

abbrev back_to : Answer (Entry × ℕ) → Result ReadEntry Refusal
back_to (gives x) = Ok (Good x.0 (record { 0 = x.1 }))
back_to (refused (by k)) = Err (refusal_of k)
back_to (refused (by_at k q)) = Ok (Bad (refusal_of k) (record { 0 = q }))

pub same_entry : (r r' : Result ReadEntry Refusal) → means_read_entry r ≡ means_read_entry r' → r ≡ r'
same_entry =
    same_by means_read_entry back_to
    (λ r. elim r as (λ k. back_to (means_read_entry k) ≡ k) [ Ok (Good x q) ↦ refl | Ok (Bad why q) ↦ ap (λ w. Ok (Bad w q)) (refusal_back why) | Err why ↦ ap Err (refusal_back why) ])

abbrev pub answer_of : Verdict → ℕ → Result ReadEntry Refusal
answer_of (good x) q = Ok (Good x (record { 0 = q }))
answer_of bad q = Ok (Bad Why.Entry (record { 0 = q }))

pub answer_means : (v : Verdict) (q : ℕ) → means_read_entry (answer_of v q) ≡ ended v q
answer_means (good x) q = refl
answer_means bad q = refl

pub reads_first : {s : List ℕ} {p : ℕ} (v : Verdict) {q : ℕ} → length s ≤ block_limit → FirstEntry s p v q → ReadsEntry s p (answer_of v q)
reads_first v {q} h f = record { answer = rw (answer_means v q) (found h f) }

pub some_is : {s : List ℕ} {m : ℕ} → Bytes s → GroupAt s m mark → (n : ℕ) × (v : Verdict) × EntryIs s m n v
some_is bytes k =
    let e = some_entry k in
    let v = some_verdict (drop 2 e.0) (entry_bytes bytes e.1) in
    (length e.0, v.0, record { bytes = e.0; stands = e.1; count = refl; judged = v.1 })

pub some_answer : (s : List ℕ) (p : ℕ) → Bytes s → (r : Result ReadEntry Refusal) × ReadsEntry s p r
some_answer s p bytes =
    by_order block_limit (length s) (λ h. (Err Why.TooLong, record { answer = row (too_long h) }))
    (λ short. by_order (length s) p (λ h. (Err Why.Place, record { answer = row (past short h) }))
    (λ h. let w = some_next s p h in
    by_order w.0 (length s)
    (λ l. let e = some_is bytes (next_is w.1 l) in
    (answer_of e.1 (w.0 + e.0), reads_first e.1 short (record { place = w.0; count = e.0; first = w.1; entry = e.2; ends = refl })))
    (λ l. (Err Why.NoStart, record { answer = row (no_mark short h (next_none w.1 l)) }))))

pub ended_same : (v w : Verdict) {q r : ℕ} → ended v q ≡ ended w r → (v ≡ w) × (q ≡ r)
ended_same (good x) (good y) e = (ap good (given_value e), given_count e)
ended_same (good x) bad e = apart e
ended_same bad (good y) e = apart (sym e)
ended_same bad bad {q} {r} e = (refl, cc)

no_place : {X : Type 0} {k : ℕ} (v : Verdict) (q : ℕ) → refused (by k) ≡ ended v q → X
no_place (good x) q e = apart (sym e)
no_place {k = k} bad q e = let z : ◌≡◌ {A = ℕ} 0 1 = cc in absurd (omega arith)

pub first_of : {s : List ℕ} {p : ℕ} {a : Answer (Entry × ℕ)} (v : Verdict) {q : ℕ} → Answered s p a → a ≡ ended v q → (length s ≤ block_limit) × FirstEntry s p v q
first_of v {q} (row x) e = no_place v q e
first_of {s} {p} v {q} (found {v = w} h f) e =
    let i = ended_same w v e in
    (h, subst (λ (u : Verdict). FirstEntry s p u q) i.0 (subst (FirstEntry s p w) i.1 f))

pub refused_by : {s : List ℕ} {p : ℕ} {a : Answer (Entry × ℕ)} (why : Refusal) → Answered s p a → a ≡ refused (because why) → EntryRefused s p why
refused_by {s} {p} why (row {why = w} x) e = subst (EntryRefused s p) (refused_same w why e) x
refused_by why (found {v = w} {q = q} h f) e = no_place w q (sym e)
