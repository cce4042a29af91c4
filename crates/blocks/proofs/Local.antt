-- Why damage stays local.
--
--   Local P reach   a predicate on a block, a place and bytes there: whether it holds of what ends `reach` bytes before a cut, or earlier, does
--                   not depend on what follows the cut; and of what begins a byte or more behind a cut, not on what precedes it
--   ends_before     what is local stands before a stretch as it stood, whatever the stretch is replaced by,
--   begins_behind   and behind the first byte past it, moved only by the change in length
--   groups_local    groups are local with reach 0
use Prim.Native.Nat.{ℕ, ◌+◌, ◌-◌, ◌≤◌, ◌<◌}
use mathlib.Core.Path.{◌≡◌, ap, sym, ◌∙◌, subst}
use mathlib.Core.List.{List, ◌++◌, append_assoc}
use mathlib.Core.Logic.{◌↔◌, inl, inr, ⊎_elim}
use native.Mathlib.Omega.{arith}
use lib.ListN.{length, get_or, take, drop, length-append, length-drop, get_or-append}
use lib.Seq.{take-append-le, drop-append-le, drop-append-add, get_or-append-add}
use Rattle.groups.specs.Group.{Group}
use Rattle.groups.proofs.Exact.{group_length}
use Rattle.blocks.specs.GroupsAndTail.{GroupAt}

pub record Local (P : List ℕ → ℕ → List ℕ → Type 0) (reach : ℕ) : Type 0 where
  pub before : (a u w : List ℕ) (p : ℕ) (g : List ℕ) → p + length g + reach ≤ length a → P (a ++ u) p g → P (a ++ w) p g
  pub after : (c d b : List ℕ) (q : ℕ) (g : List ℕ) → 0 < q → P (c ++ b) (length c + q) g → P (d ++ b) (length d + q) g

module _ {P : List ℕ → ℕ → List ℕ → Type 0} {reach : ℕ} (w : Local P reach) (a x y b : List ℕ) where
  pub ends_before : (p : ℕ) (g : List ℕ) → p + length g + reach ≤ length a → P (a ++ x ++ b) p g ↔ P (a ++ y ++ b) p g
  ends_before p g h = (way x y, way y x)
    where
      way : (u v : List ℕ) → P (a ++ u ++ b) p g → P (a ++ v ++ b) p g
      way u v k =
          subst (λ (s : List ℕ). P s p g) (sym (append_assoc a v b))
          (w.before a (u ++ b) (v ++ b) p g h (subst (λ (s : List ℕ). P s p g) (append_assoc a u b) k))

  pub begins_behind : (p p' : ℕ) (g : List ℕ) → length (a ++ x) < p → p' + length x ≡ p + length y
      → P (a ++ x ++ b) p g ↔ P (a ++ y ++ b) p' g
  begins_behind p p' g h e =
      let q = p - length (a ++ x) in
      let i : p ≡ length (a ++ x) + q = omega arith in
      let j : p' ≡ length (a ++ y) + q = omega (arith, length-append a x, length-append a y) in
      let some_byte : 0 < q = omega arith in (
        λ k. subst (λ (n : ℕ). P (a ++ y ++ b) n g) (sym j)
            (w.after (a ++ x) (a ++ y) b q g some_byte (subst (λ (n : ℕ). P (a ++ x ++ b) n g) i k)),
        λ k. subst (λ (n : ℕ). P (a ++ x ++ b) n g) (sym i)
            (w.after (a ++ y) (a ++ x) b q g some_byte (subst (λ (n : ℕ). P (a ++ y ++ b) n g) j k)),
      )

-- a group is some byte
some : {g : List ℕ} → Group g → 0 < length g
some r = omega (arith, group_length r)

before : (a u w : List ℕ) (p : ℕ) (g : List ℕ) → p + length g + 0 ≤ length a → GroupAt (a ++ u) p g → GroupAt (a ++ w) p g
before a u w p g h k = record {
  start = record {
    here = rw length-append (omega arith);
    behind = ⊎_elim (λ (e : p ≡ 0). inl e) (λ (b : (0 < p) × (get_or (a ++ u) (p - 1) 0 < 128)). inr (
      b.0,
      (let i : p - 1 < length a = omega (arith, b.0, some k.is_group) in
          rw (get_or-append a w 0 (p - 1) i) (rw (get_or-append a u 0 (p - 1) i) at b.1)),
    )) k.start.behind;
  };
  is_group = k.is_group;
  there = moved w ∙ sym (moved u) ∙ k.there;
}
  where
    moved : (z : List ℕ) → take (length g) (drop p (a ++ z)) ≡ take (length g) (drop p a)
    moved z =
        let l : length g ≤ length (drop p a) = rw length-drop (omega arith) in
        ap (take (length g)) (drop-append-le p a z (omega arith)) ∙ take-append-le (length g) (drop p a) z l

after : (c d b : List ℕ) (q : ℕ) (g : List ℕ) → 0 < q → GroupAt (c ++ b) (length c + q) g → GroupAt (d ++ b) (length d + q) g
after c d b q g h k = record {
  start = record {
    here = rw length-append (omega (arith, rw length-append at k.start.here));
    behind = inr (omega arith, rw (at_byte d) (rw (at_byte c) at low));
  };
  is_group = k.is_group;
  there = ap (take (length g)) (drop-append-add d b q ∙ sym (drop-append-add c b q)) ∙ k.there;
}
  where
    at_byte : (z : List ℕ) → get_or (z ++ b) (length z + q - 1) 0 ≡ get_or b (q - 1) 0
    at_byte z = let i : length z + q - 1 ≡ length z + (q - 1) = omega arith in rw i (get_or-append-add z b (q - 1) 0)

    low : get_or (c ++ b) (length c + q - 1) 0 < 128
    low = ⊎_elim (λ (e : length c + q ≡ 0). absurd (omega arith)) (λ (b : (0 < length c + q) × (get_or (c ++ b) (length c + q - 1) 0 < 128)). b.1) k.start.behind

pub groups_local : Local GroupAt 0
groups_local = record { before = before; after = after }
