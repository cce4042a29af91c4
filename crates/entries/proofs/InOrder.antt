-- Entries one after another: what a reader gives from a place on is exactly the entries of the marks from there on, in order.
--
--   given_all    what a reader gives is all that stands there,
--   some_given   it gives something,
--   in_order     and so it gives exactly that
use Prim.Native.Nat.{ℕ, zero, suc, ◌+◌, ◌-◌, ◌≤◌, ◌<◌}
use mathlib.Core.Path.{◌≡◌, refl, ap, sym, subst}
use mathlib.Core.List.{List, [], ◌∷◌}
use mathlib.Core.Logic.{inl, inr, ⊎_elim, ◌↔◌}
use native.Mathlib.Omega.{arith}
use lib.ListN.{length}
use Rattle.words.specs.declared.Refusal.TheVariants as Why
use Rattle.words.proofs.Cases.{by_order}
use Rattle.blocks.specs.GroupsAndTail.{GroupAt}
use Rattle.blocks.specs.Readings.{Block}
use Rattle.entries.specs.Standing.{mark, NextMark}
use Rattle.entries.specs.Saying.{Verdict}
use Rattle.entries.specs.Promise.{EntryIs, EntryRefused, no_mark, row}
use Rattle.entries.specs.Given.{EntriesGiven, no_more, next, In, EntriesFrom}
use Rattle.entries.proofs.SameList.{ordered_up, same_list, same_triple}
use Rattle.entries.proofs.NextMarks.{next_within, next_is, next_none, one_next, some_next}
use Rattle.entries.proofs.Standing.{entry_long, behind_entry}
use Rattle.entries.proofs.OneEntry.{one_is, some_is, answer_of, answer_means, reads_first, first_of, refused_by}

module _ {s : List ℕ} where
  none_there : {p : ℕ} → EntryRefused s p Why.NoStart → (q : ℕ) → p ≤ q → GroupAt s q mark → ⊥
  none_there (no_mark h l f) = f

  -- an entry in front of those behind it
  in_front : {p m n : ℕ} {v : Verdict} {l : List (ℕ × ℕ × Verdict)} → NextMark s p m → EntryIs s m n v → EntriesFrom s (m + n) l → EntriesFrom s p ((m, n, v) ∷ l)
  in_front {p} {m} {n} {v} {l} a k rest =
      let two : 2 ≤ n = omega (arith, entry_long k.stands, k.count) in
      record {
        ordered = (a.from, ordered_up (suc m) (m + n) l (omega arith) rest.ordered);
        each = λ m' n' v'. (
          λ i. ⊎_elim
              (λ (e : ◌≡◌ {A = ℕ × ℕ × Verdict} (m', n', v') (m, n, v)). (
                omega (arith, a.from, ap (λ (y : ℕ × ℕ × Verdict). y.0) e),
                subst (λ (y : ℕ × ℕ × Verdict). EntryIs s y.0 y.1 y.2) (sym e) k,
              ))
              (λ (j : In (m', n', v') l). let w = (rest.each m' n' v').0 j in (omega (arith, a.from, w.0), w.1)) i,
          λ h.
              by_order m m'
              (λ lt. inr ((rest.each m' n' v').1 (omega (arith, behind_entry k.stands m' lt h.1.stands.opens, k.count), h.1)))
              (λ ge. by_order m' m (λ lt. absurd (a.none_before m' h.0 lt h.1.stands.opens))
              (λ le.
              let e : m' ≡ m = omega arith in
              let w = one_is (subst (λ (i : ℕ). EntryIs s i n' v') e h.1) k in inl (same_triple e w.0 w.1))),
        );
      }

  pub given_all : {p : ℕ} {l : List (ℕ × ℕ × Verdict)} → EntriesGiven s p l → EntriesFrom s p l
  given_all (no_more x) = record {
    ordered = tt;
    each = λ m n v. (λ i. absurd i, λ h. none_there (refused_by Why.NoStart x.answer refl) m h.0 h.1.stands.opens);
  }
  given_all (next {m = m} {n = n} {v = v} r x e a rest) =
      let f = (first_of v x.answer e).1 in
      let i : f.place ≡ m = one_next f.first a in
      let j : f.count ≡ n = omega (arith, i, f.ends) in
      in_front a (subst (λ (y : ℕ). EntryIs s m y v) j (subst (λ (y : ℕ). EntryIs s y f.count v) i f.entry)) (given_all rest)

  module _ (block : Block s) where
    some_more : (k p : ℕ) → length s - p < k → p ≤ length s → (l : List (ℕ × ℕ × Verdict)) × EntriesGiven s p l
    some_more zero p h here = absurd (omega arith)
    some_more (suc k) p h here =
        let w = some_next s p here in
        by_order w.0 (length s)
        (λ l.
        let e = some_is block.bytes (next_is w.1 l) in
        let end : w.0 + e.0 ≤ length s = omega (arith, next_within e.2.stands.ends, e.2.count) in
        let more = some_more k (w.0 + e.0) (omega (arith, w.1.from, entry_long e.2.stands, e.2.count)) end in
        let first = reads_first e.1 block.short (record { place = w.0; count = e.0; first = w.1; entry = e.2; ends = refl }) in
        ((w.0, e.0, e.1) ∷ more.0, next {l = more.0} (answer_of e.1 (w.0 + e.0)) first (answer_means e.1 (w.0 + e.0)) w.1 more.1))
        (λ l. ([], no_more (record { answer = row (no_mark block.short here (next_none w.1 l)) })))

    pub some_given : (p : ℕ) → p ≤ length s → (l : List (ℕ × ℕ × Verdict)) × EntriesGiven s p l
    some_given p here = some_more (suc (length s - p)) p (omega arith) here

    pub in_order : (p : ℕ) (l : List (ℕ × ℕ × Verdict)) → p ≤ length s → EntriesGiven s p l ↔ EntriesFrom s p l
    in_order p l here = (
      given_all,
      λ f.
          let g = some_given p here in
          let a = given_all g.1 in
          subst (EntriesGiven s p)
          (same_list p p g.0 l a.ordered f.ordered (λ k. (
            λ i. (f.each k.0 k.1 k.2).1 ((a.each k.0 k.1 k.2).0 i),
            λ i. (a.each k.0 k.1 k.2).1 ((f.each k.0 k.1 k.2).0 i),
          ))) g.1,
    )
