-- Where entries stand: they are local with reach 2, and one stands at each mark.
--
--   entries_local   whether an entry stands before a cut depends on the following mark's two bytes, and on nothing behind them
--   one_entry       at a mark stands one entry
--   entry_there     and one does: the bytes up to the next mark or to the end; `entry_end`: where it ends
--   some_entry      so each mark opens one
--   entry_long      an entry has its mark's two bytes
--   behind_entry    no mark stands in it behind its own
use Prim.Native.Nat.{ℕ, ◌+◌, ◌-◌, ◌≤◌, ◌<◌}
use mathlib.Core.Path.{◌≡◌, ap, sym, ◌∙◌, subst}
use mathlib.Core.List.{List, ◌++◌}
use mathlib.Core.Logic.{inl, inr, ⊎_elim}
use native.Mathlib.Omega.{arith}
use lib.ListN.{length, take, drop, length-append, length-drop}
use lib.Seq.{length-take-le, take-append-le, drop-append-le, drop-append-add}
use Rattle.words.proofs.Cases.{by_order}
use Rattle.blocks.specs.GroupsAndTail.{GroupAt}
use Rattle.blocks.proofs.Local.{Local, groups_local}
use Rattle.entries.specs.Standing.{mark, NextMark, EntryAt}
use Rattle.entries.proofs.NextMarks.{mark_inside, mark_high, mark_start, next_within, next_is, one_next, some_next}

before : (a u w : List ℕ) (p : ℕ) (e : List ℕ) → p + length e + 2 ≤ length a → EntryAt (a ++ u) p e → EntryAt (a ++ w) p e
before a u w p e h k = record {
  opens = same u w p (omega (arith, k.ends.from)) k.opens;
  there = moved w ∙ sym (moved u) ∙ k.there;
  ends = record {
    from = k.ends.from;
    none_before = λ q l m x. k.ends.none_before q l m (same w u q (omega arith) x);
    there = inl (same u w (p + length e) (omega arith) (next_is k.ends (rw length-append (omega arith))));
  };
}
  where
    same : (y z : List ℕ) (q : ℕ) → q + 2 ≤ length a → GroupAt (a ++ y) q mark → GroupAt (a ++ z) q mark
    same y z q l x = groups_local.before a y z q mark (omega arith) x

    moved : (z : List ℕ) → take (length e) (drop p (a ++ z)) ≡ take (length e) (drop p a)
    moved z =
        let l : length e ≤ length (drop p a) = rw length-drop (omega arith) in
        ap (take (length e)) (drop-append-le p a z (omega arith)) ∙ take-append-le (length e) (drop p a) z l

after : (c d b : List ℕ) (q : ℕ) (e : List ℕ) → 0 < q → EntryAt (c ++ b) (length c + q) e → EntryAt (d ++ b) (length d + q) e
after c d b q e h k = record {
  opens = groups_local.after c d b q mark h k.opens;
  there = ap (take (length e)) (drop-append-add d b q ∙ sym (drop-append-add c b q)) ∙ k.there;
  ends = record {
    from = omega (arith, k.ends.from);
    none_before = λ j l m x. k.ends.none_before (length c + (j - length d)) (omega arith) (omega arith) (mark_moved d c j (length c + (j - length d)) (omega arith) (omega arith) x);
    there = ⊎_elim (λ x. inl (mark_moved c d (length c + q + length e) (length d + q + length e) (omega arith) (omega arith) x))
        (λ x. inr (rw length-append (omega (arith, x, length-append c b))))
        k.ends.there;
  };
}
  where
    mark_moved : (y z : List ℕ) (i j : ℕ) → length y < i → i + length z ≡ j + length y → GroupAt (y ++ b) i mark → GroupAt (z ++ b) j mark
    mark_moved y z i j l f x =
        let e : i ≡ length y + (i - length y) = omega arith in
        let e' : length z + (i - length y) ≡ j = omega arith in
        subst (λ (n : ℕ). GroupAt (z ++ b) n mark) e' (groups_local.after y z b (i - length y) mark (omega arith) (subst (λ (n : ℕ). GroupAt (y ++ b) n mark) e x))

pub entries_local : Local EntryAt 2
entries_local = record { before = before; after = after }

pub one_entry : {s : List ℕ} {p : ℕ} {e f : List ℕ} → EntryAt s p e → EntryAt s p f → e ≡ f
one_entry {s} {p} {e} {f} k j =
    let l : length e ≡ length f = omega (arith, one_next k.ends j.ends) in
    sym k.there ∙ ap (λ (n : ℕ). take n (drop p s)) l ∙ j.there

module _ {s : List ℕ} {p n : ℕ} (k : GroupAt s p mark) (a : NextMark s (p + 2) n) where
  entry_length : length (take (n - p) (drop p s)) ≡ n - p
  entry_length = length-take-le (n - p) (drop p s) (omega (arith, next_within a, length-drop p s))

  pub entry_end : n ≡ p + length (take (n - p) (drop p s))
  entry_end = omega (arith, entry_length, a.from)

  pub entry_there : EntryAt s p (take (n - p) (drop p s))
  entry_there = record {
    opens = k;
    there = ap (λ (i : ℕ). take i (drop p s)) entry_length;
    ends = subst (NextMark s (p + 2)) entry_end a;
  }

pub some_entry : {s : List ℕ} {m : ℕ} → GroupAt s m mark → (e : List ℕ) × EntryAt s m e
some_entry {s} {m} k = let w = some_next s (m + 2) (mark_inside k) in (take (w.0 - m) (drop m s), entry_there k w.1)

module _ {s : List ℕ} {p : ℕ} {e : List ℕ} (k : EntryAt s p e) where
  pub entry_long : 2 ≤ length e
  entry_long = omega (arith, k.ends.from)

  pub behind_entry : (q : ℕ) → p < q → GroupAt s q mark → p + length e ≤ q
  behind_entry q h x =
      by_order q (p + length e)
      (λ l. by_order q (p + 2)
      (λ m. let i : q - 1 ≡ p = omega arith in absurd (omega (arith, rw i at (mark_start x (omega arith)), mark_high k.opens)))
      (λ m. absurd (k.ends.none_before q m l x)))
      (λ l. l)
