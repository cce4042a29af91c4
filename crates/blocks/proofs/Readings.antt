-- What a reader gives, step after step, is the readings of the groups of the block.
--
--   reads_exactly   from a start, steps give exactly the readings of the groups from there on
--   as_groups       what holds exactly where a list is the readings of some groups can be said with any equal list of groups
--   reads_all       what steps give from place 0 on is the readings of all groups of the block
use Prim.Native.Nat.{ℕ, zero, suc, ◌+◌, ◌-◌, ◌<◌}
use mathlib.Core.Path.{◌≡◌, refl, ap, sym, ◌∙◌, subst}
use mathlib.Core.List.{List, [], ◌∷◌}
use mathlib.Core.Logic.{◌↔◌}
use native.Mathlib.Omega.{arith}
use lib.ListN.{length, drop}
use Rattle.std.specs.Prelude.{Result, Ok, Err}
use Rattle.words.specs.Answer.{Answer, gives, refused, because_at}
use Rattle.words.specs.declared.Refusal.{Refusal}
use Rattle.blocks.specs.Block.{Val, read_by}
use Rattle.blocks.specs.Promise.{means_value}
use Rattle.blocks.specs.GroupsAndTail.{cut, Start, GroupAt, TailAt}
use Rattle.blocks.specs.Places.{placed, listed}
use Rattle.blocks.specs.Rows.{GroupReads, StepRefused, StepRow}
use Rattle.blocks.specs.Rows.StepRefused.{too_long, past, not_a_start}
use Rattle.blocks.specs.Readings.{Block, readings, ReaderGives, at_end, at_tail, at_number, at_gap}
use Rattle.blocks.specs.declared.Rule.{Rule}
use Rattle.blocks.specs.declared.Step.{Step}
use Rattle.blocks.specs.declared.Step.TheVariants as S
use Rattle.blocks.proofs.FromStart.{front_start, group_here, here_long, next_start, end_cut, tail_cut, group_cut}
use Rattle.blocks.proofs.StepRows.{step_row_kept, some_step_row, step_rows}

module _ (f : ℕ → Rule) (s : List ℕ) where
  -- the readings from a place on
  abbrev from_here : ℕ → List (ℕ × ℕ × Answer Val)
  from_here p = readings f (placed p (cut (drop p s)).groups)

  at_group : (p : ℕ) (g : List ℕ) → GroupAt s p g → from_here p ≡ (p, length g, read_by (f p) g) ∷ from_here (p + length g)
  at_group p g k = rw (group_cut (group_here k)) refl

  no_group_at_end : (p : ℕ) → p ≡ length s → from_here p ≡ []
  no_group_at_end p e = rw (end_cut s p e) refl

  no_group_in_tail : (p : ℕ) → TailAt s p → from_here p ≡ []
  no_group_in_tail p k = rw (tail_cut k) refl

  one_given : (p n q : ℕ) (a : Answer Val) (l : List (ℕ × ℕ × Answer Val)) → GroupReads (f p) s p a n q → (Start s q → l ≡ from_here q) → (p, n, a) ∷ l ≡ from_here p
  one_given p n q a l k ih =
      rw (k.count, ← k.reads, ih (rw k.next (next_start (group_here k.stands))), k.next) (sym (at_group p k.group k.stands))

  module _ (block : Block s) where
    all_given : (p : ℕ) (l : List (ℕ × ℕ × Answer Val)) → Start s p → ReaderGives f s p l → l ≡ from_here p
    all_given p _ k (at_end _ c a) = sym (no_group_at_end p ((step_rows (f p) s p (Ok (S.Finished c)) block.bytes).0 a).1)
    all_given p _ k (at_tail _ n c a) = sym (no_group_in_tail p ((step_rows (f p) s p (Ok (S.Tail n c)) block.bytes).0 a).1)
    all_given p _ k (at_number _ v n c l a rest) =
        one_given p n.0 c.place.0 (gives (means_value v)) l ((step_rows (f p) s p (Ok (S.Number v n c)) block.bytes).0 a).1 (λ j. all_given c.place.0 l j rest)
    all_given p _ k (at_gap _ why j n c l a rest) =
        let row = (step_rows (f p) s p (Ok (S.Gap (record { 0 = why; 1 = (record { 0 = p + j }) }) n c)) block.bytes).0 a in
        let e : j ≡ row.1 = omega (arith, row.2) in
        one_given p n.0 c.place.0 (refused (because_at why j)) l (rw e row.3) (λ i. all_given c.place.0 l i rest)

    -- from a start a step does not refuse
    no_refusal : (p : ℕ) → Start s p → (why : Refusal) → StepRefused s p why → ⊥
    no_refusal p k _ (too_long h) = omega (arith, block.short)
    no_refusal p k _ (past f h) = omega (arith, k.here)
    no_refusal p k _ (not_a_start f h not) = not k

    further : {p n q : ℕ} {a : Answer Val} → GroupReads (f p) s p a n q → (p < q) × Start s q
    further k = (omega (arith, k.next, here_long (group_here k.stands)), rw k.next (next_start (group_here k.stands)))

    ends_by : (p : ℕ) → Start s p → ((q : ℕ) → p < q → Start s q → ReaderGives f s q (from_here q)) → (r : Result Step Refusal) → StepRow (f p) s p r → ReaderGives f s p (from_here p)
    ends_by p k ih (Ok (S.Finished c)) row = rw (no_group_at_end p row.1) (at_end p c (step_row_kept (f p) s p (Ok (S.Finished c)) row))
    ends_by p k ih (Ok (S.Tail n c)) row = rw (no_group_in_tail p row.1) (at_tail p n c (step_row_kept (f p) s p (Ok (S.Tail n c)) row))
    ends_by p k ih (Err why) row = absurd (no_refusal p k why row)
    ends_by p k ih (Ok (S.Number v n c)) row =
        let q = c.place.0 in
        let b = further row.1 in
        subst (ReaderGives f s p) (one_given p n.0 q (gives (means_value v)) (from_here q) row.1 (λ j. refl))
        (at_number p v n c (from_here q) (step_row_kept (f p) s p (Ok (S.Number v n c)) row) (ih q b.0 b.1))
    ends_by p k ih (Ok (S.Gap fault n c)) row =
        let q = c.place.0 in
        let j = row.1 in
        let b = further row.3 in
        subst (ReaderGives f s p) (one_given p n.0 q (refused (because_at fault.0 j)) (from_here q) row.3 (λ i. refl))
        (at_gap p fault.0 j n c (from_here q) (step_row_kept (f p) s p (Ok (S.Gap (record { 0 = fault.0; 1 = record { 0 = p + j } }) n c)) (row.0, j, refl, row.3)) (ih q b.0 b.1))

    ends : (n p : ℕ) → length s - p < n → Start s p → ReaderGives f s p (from_here p)
    ends zero p h k = absurd (omega arith)
    ends (suc n) p h k =
        let found = some_step_row (f p) s p block.bytes in
        ends_by p k (λ q l j. ends n q (omega (arith, l, j.here)) j) found.0 found.1

    pub reads_exactly : (p : ℕ) (l : List (ℕ × ℕ × Answer Val)) → Start s p → ReaderGives f s p l ↔ (l ≡ readings f (placed p (cut (drop p s)).groups))
    reads_exactly p l k = (all_given p l k, λ e. rw e (ends (suc (length s - p)) p (omega arith) k))

-- the same groups, said in another way
pub as_groups : {X : Type 0} (f : ℕ → Rule) {l : List (ℕ × ℕ × Answer Val)} {ks ms : List (ℕ × ℕ × List ℕ)} → ks ≡ ms → X ↔ (l ≡ readings f ms) → X ↔ (l ≡ readings f ks)
as_groups f e w = (λ x. w.0 x ∙ ap (readings f) (sym e), λ q. w.1 (q ∙ ap (readings f) e))

pub reads_all : (f : ℕ → Rule) (s : List ℕ) → Block s → (l : List (ℕ × ℕ × Answer Val)) → ReaderGives f s 0 l → l ≡ readings f (listed s)
reads_all f s block l r = (reads_exactly f s block 0 l (front_start s)).0 r
