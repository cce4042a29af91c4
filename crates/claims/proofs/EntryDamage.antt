-- Demand 3 for entries. It rests on `Local`, and on lists in order with the same things in them being the same.
--
--   at_entry                     what a reader answers at an entry's mark
--   entry_front, entry_back      an entry stands and reads as before, in front of the stretch and behind it
--   ordered_ending, in_ending    what is left of a list in order where only what ends early enough is kept
--   ordered_less, in_less        the same where only what begins late enough is, its places less
--   entry_kept                   an entry that stands elsewhere with the same bytes has the same count and verdict
--   entries_front, entries_back  what a reader gives in each of the two parts is the same list
use Prim.Native.Nat.{ℕ, suc, ◌+◌, ◌-◌, ◌≤◌}
use mathlib.Core.Path.{◌≡◌, refl, ap, sym, ◌∙◌}
use mathlib.Core.List.{List, [], ◌∷◌, ◌++◌}
use mathlib.Core.Logic.{inl, inr, ⊎_elim, ◌↔◌}
use native.Mathlib.Omega.{arith}
use borrow.Author.Tests.{le-leb, lt-leb}
use lib.ListN.{length, drop, length-append}
use Rattle.std.specs.Prelude.{Result}
use Rattle.words.specs.declared.Refusal.{Refusal}
use Rattle.words.proofs.Cases.{by_order}
use Rattle.groups.specs.Group.{run}
use Rattle.blocks.specs.Places.{ending, from, less}
use Rattle.blocks.specs.Readings.{Block}
use Rattle.blocks.proofs.Local.{ends_before, begins_behind}
use Rattle.entries.specs.Standing.{EntryAt}
use Rattle.entries.specs.Saying.{Verdict, good, bad, Judged}
use Rattle.entries.specs.Promise.{EntryIs, ReadsEntry}
use Rattle.entries.specs.Given.{In, Ordered, EntriesFrom}
use Rattle.entries.specs.declared.ReadEntry.{ReadEntry}
use Rattle.entries.proofs.NextMarks.{next_here}
use Rattle.entries.proofs.Standing.{entries_local}
use Rattle.entries.proofs.SaysGroups.{one_verdict, some_verdict}
use Rattle.entries.proofs.OneEntry.{entry_bytes, same_entry, one_answered, answer_of, reads_first}
use Rattle.entries.proofs.SameList.{ordered_up, same_list, same_triple}
use Rattle.entries.proofs.InOrder.{given_all}
use Rattle.claims.specs.OfEntries.{EntryFront, EntryBack, SameMoved, good_moved, bad_moved, EntriesFront, EntriesBack}

at_entry : {s : List ℕ} {p : ℕ} {e : List ℕ} {r : Result ReadEntry Refusal} → Block s → EntryAt s p e → ReadsEntry s p r
    → (v : Verdict) × Judged (drop 2 e) v × (r ≡ answer_of v (p + length e))
at_entry {s} {p} {e} {r} block k w =
    let v = some_verdict (drop 2 e) (entry_bytes block.bytes k) in
    let first = reads_first v.0 block.short (record {
      place = p;
      count = length e;
      first = next_here k.opens;
      entry = record { bytes = e; stands = k; count = refl; judged = v.1 };
      ends = refl;
    }) in
    (v.0, v.1, same_entry r (answer_of v.0 (p + length e)) (one_answered w.answer first.answer))

pub entry_front : EntryFront
entry_front a x y b p e h =
    let there : EntryAt (a ++ x ++ b) p e ↔ EntryAt (a ++ y ++ b) p e = ends_before entries_local a x y b p e h in (
      there,
      λ r r' old new k w w'.
          let i = at_entry old k w in
          let j = at_entry new (there.0 k) w' in
          i.2 ∙ ap (λ (v : Verdict). answer_of v (p + length e)) (one_verdict i.1 j.1) ∙ sym j.2,
    )

same_moved : (n n' q q' : ℕ) (v : Verdict) → q' + n ≡ q + n' → SameMoved n n' (answer_of v q) (answer_of v q')
same_moved n n' q q' (good x) e = good_moved e
same_moved n n' q q' bad e = bad_moved e

pub entry_back : EntryBack
entry_back a x y b p p' e h i =
    let there : EntryAt (a ++ x ++ b) p e ↔ EntryAt (a ++ y ++ b) p' e = begins_behind entries_local a x y b p p' e (omega arith) i in (
      there,
      λ r r' old new k w w'.
          let f = at_entry old k w in
          let g = at_entry new (there.0 k) w' in
          rw (f.2, g.2, one_verdict g.1 f.1) (same_moved (length x) (length y) (p + length e) (p' + length e) f.0 (omega (arith, i))),
    )

module _ {A : Type 0} (reach n : ℕ) where
  ordered_ending : (i : ℕ) (l : List (ℕ × ℕ × A)) → Ordered i l → Ordered i (ending reach n l)
  ordered_ending i [] o = tt
  ordered_ending i (k ∷ l) o =
      by_order n (k.0 + k.1 + reach)
      (λ h. rw (lt-leb (k.0 + k.1 + reach) n h) (ordered_up i (suc k.0) (ending reach n l) (omega (arith, o.0)) (ordered_ending (suc k.0) l o.1)))
      (λ h. rw (le-leb (k.0 + k.1 + reach) n h) (o.0, ordered_ending (suc k.0) l o.1))

  in_ending : (l : List (ℕ × ℕ × A)) (x : ℕ × ℕ × A) → In x (ending reach n l) ↔ (In x l × (x.0 + x.1 + reach ≤ n))
  in_ending [] x = (λ i. absurd i, λ h. absurd h.0)
  in_ending (k ∷ l) x =
      by_order n (k.0 + k.1 + reach)
      (λ h. rw (lt-leb (k.0 + k.1 + reach) n h) (
        λ i. let w = (in_ending l x).0 i in (inr w.0, w.1),
        λ w. ⊎_elim (λ (e : x ≡ k). absurd (omega (arith, rw e at w.1))) (λ (j : In x l). (in_ending l x).1 (j, w.1)) w.0,
      ))
      (λ h. rw (le-leb (k.0 + k.1 + reach) n h) (
        λ i. ⊎_elim (λ (e : x ≡ k). (inl e, rw e h)) (λ (j : In x (ending reach n l)). let w = (in_ending l x).0 j in (inr w.0, w.1)) i,
        λ w. ⊎_elim (λ (e : x ≡ k). inl e) (λ (j : In x l). inr ((in_ending l x).1 (j, w.1))) w.0,
      ))

module _ {A : Type 0} (n : ℕ) where
  ordered_less : (i : ℕ) (l : List (ℕ × ℕ × A)) → Ordered i l → Ordered (i - n) (less n (from n l))
  ordered_less i [] o = tt
  ordered_less i (k ∷ l) o =
      by_order k.0 n
      (λ h. rw (lt-leb n k.0 h) (ordered_up (i - n) (suc k.0 - n) (less n (from n l)) (omega (arith, o.0)) (ordered_less (suc k.0) l o.1)))
      (λ h. rw (le-leb n k.0 h) (
        omega (arith, o.0),
        ordered_up (suc (k.0 - n)) (suc k.0 - n) (less n (from n l)) (omega arith) (ordered_less (suc k.0) l o.1),
      ))

  in_less : (l : List (ℕ × ℕ × A)) (i c : ℕ) (v : A) → In (i, c, v) (less n (from n l)) ↔ In (n + i, c, v) l
  in_less [] i c v = (λ j. absurd j, λ j. absurd j)
  in_less (k ∷ l) i c v =
      by_order k.0 n
      (λ h. rw (lt-leb n k.0 h) (
        λ j. inr ((in_less l i c v).0 j),
        λ j. ⊎_elim (λ (e : ◌≡◌ {A = ℕ × ℕ × A} (n + i, c, v) k). absurd (omega (arith, ap (λ (y : ℕ × ℕ × A). y.0) e))) (λ (m : In (n + i, c, v) l). (in_less l i c v).1 m) j,
      ))
      (λ h. rw (le-leb n k.0 h) (
        λ j. ⊎_elim (λ (e : ◌≡◌ {A = ℕ × ℕ × A} (i, c, v) (k.0 - n, k.1, k.2)).
            let p : i ≡ k.0 - n = ap (λ (y : ℕ × ℕ × A). y.0) e in
            inl (same_triple (omega (arith, p)) (ap (λ (y : ℕ × ℕ × A). y.1) e) (ap (λ (y : ℕ × ℕ × A). y.2) e)))
            (λ (m : In (i, c, v) (less n (from n l))). inr ((in_less l i c v).0 m)) j,
        λ j. ⊎_elim (λ (e : ◌≡◌ {A = ℕ × ℕ × A} (n + i, c, v) k).
            let p : n + i ≡ k.0 = ap (λ (y : ℕ × ℕ × A). y.0) e in
            inl (same_triple (omega (arith, p)) (ap (λ (y : ℕ × ℕ × A). y.1) e) (ap (λ (y : ℕ × ℕ × A). y.2) e)))
            (λ (m : In (n + i, c, v) l). inr ((in_less l i c v).1 m)) j,
      ))

entry_kept : {s s' : List ℕ} {m m' n : ℕ} {v : Verdict} (k : EntryIs s m n v) → EntryAt s' m' k.bytes → EntryIs s' m' n v
entry_kept k there = record { bytes = k.bytes; stands = there; count = k.count; judged = k.judged }

pub entries_front : EntriesFront
entries_front a x y b l l' g g' =
    let n = length a in
    same_list 0 0 (ending 2 n l) (ending 2 n l') (ordered_ending 2 n 0 l (given_all g).ordered) (ordered_ending 2 n 0 l' (given_all g').ordered)
    (λ k. (way x y l l' (given_all g) (given_all g') k, way y x l' l (given_all g') (given_all g) k))
  where
    way : (u w : List ℕ) (m m' : List (ℕ × ℕ × Verdict)) → EntriesFrom (a ++ u ++ b) 0 m → EntriesFrom (a ++ w ++ b) 0 m' → (k : ℕ × ℕ × Verdict)
        → In k (ending 2 (length a) m) → In k (ending 2 (length a) m')
    way u w m m' f f' k i =
        let h = (in_ending 2 (length a) m k).0 i in
        let e = ((f.each k.0 k.1 k.2).0 h.0).1 in
        (in_ending 2 (length a) m' k).1 (
          (f'.each k.0 k.1 k.2).1 (
            omega arith,
            entry_kept e ((ends_before entries_local a u w b k.0 e.bytes (omega (arith, h.1, e.count))).0 e.stands),
          ),
          h.1,
        )

pub entries_back : EntriesBack
entries_back a x y b l l' g g' =
    same_list 0 0 (less (past x) (from (past x) l)) (less (past y) (from (past y) l'))
    (ordered_up 0 (0 - past x) (less (past x) (from (past x) l)) (omega arith) (ordered_less (past x) 0 l (given_all g).ordered))
    (ordered_up 0 (0 - past y) (less (past y) (from (past y) l')) (omega arith) (ordered_less (past y) 0 l' (given_all g').ordered))
    (λ k. (way x y l l' (given_all g) (given_all g') k, way y x l' l (given_all g') (given_all g) k))
  where
    past : List ℕ → ℕ
    past z = length (a ++ z) + run b + 1

    way : (u w : List ℕ) (m m' : List (ℕ × ℕ × Verdict)) → EntriesFrom (a ++ u ++ b) 0 m → EntriesFrom (a ++ w ++ b) 0 m' → (k : ℕ × ℕ × Verdict)
        → In k (less (past u) (from (past u) m)) → In k (less (past w) (from (past w) m'))
    way u w m m' f f' k i =
        let e = ((f.each (past u + k.0) k.1 k.2).0 ((in_less (past u) m k.0 k.1 k.2).0 i)).1 in
        (in_less (past w) m' k.0 k.1 k.2).1 ((f'.each (past w + k.0) k.1 k.2).1 (
          omega arith,
          entry_kept e
              ((begins_behind entries_local a u w b (past u + k.0) (past w + k.0) e.bytes (omega arith)
              (omega (arith, length-append a u, length-append a w))).0 e.stands),
        ))
