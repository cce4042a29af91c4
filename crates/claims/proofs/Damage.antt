-- Demand 3: what stands and is read before and behind a stretch that was replaced.
--
--   damage_front        every group that ends before the stretch stands as before, no other appears there, and a step there answers as before
--   damage_back         every group that begins after the first byte below 128 past the stretch stands as before, its place moved only by the
--                       change in length, no other appears there, and a step says of it what it said
--   damage_back_gap     where such a group is a gap, the byte that decided it moves with it
--   damage_front_read   what a reader gives that ends before the stretch is the same list, if the rules chosen there are the same
--   damage_back_read    what it gives that begins after that byte is the same list, with places counted from there, if the rules chosen there
--                       are the same
use Prim.Native.Nat.{ℕ, ◌+◌, ◌-◌, ◌≤◌, ◌<◌}
use mathlib.Core.Path.{◌≡◌, refl, ap, sym, ◌∙◌}
use mathlib.Core.List.{List, [], ◌∷◌, ◌++◌, append_assoc}
use mathlib.Core.Logic.{◌↔◌}
use native.Mathlib.Omega.{arith}
use lib.ListN.{length, drop, length-append}
use lib.Dec.{leb}
use Rattle.std.specs.Prelude.{Result, Ok}
use Rattle.words.specs.Answer.{Answer}
use Rattle.words.specs.declared.Place.{Place}
use Rattle.words.specs.declared.Refusal.{Refusal}
use Rattle.words.proofs.Cases.{by_test}
use Rattle.groups.specs.Group.{run}
use Rattle.blocks.specs.Block.{Val, says_by}
use Rattle.blocks.specs.Promise.{means_step, Steps}
use Rattle.blocks.specs.GroupsAndTail.{cut, GroupAt}
use Rattle.blocks.specs.Places.{placed, listed, ending, from, less}
use Rattle.blocks.specs.Readings.{Block, readings, ReaderGives}
use Rattle.blocks.specs.declared.Cursor.{Cursor}
use Rattle.blocks.specs.declared.Step.{Step}
use Rattle.blocks.specs.declared.Step.TheVariants as S
use Rattle.blocks.specs.declared.Rule.{Rule}
use Rattle.blocks.proofs.Cut.{total, all_bytes, Some, some_each}
use Rattle.blocks.proofs.Local.{ends_before, begins_behind, groups_local}
use Rattle.blocks.proofs.Places.{ends_within, begins_from}
use Rattle.blocks.proofs.Readings.{reads_all}
use Rattle.blocks.proofs.OneStep.{same_step}
use Rattle.blocks.proofs.StepRows.{says_group, step_row_kept, step_rows}
use Rattle.claims.specs.OfDamage.{Front, Back, GapMoves, FrontRead, BackRead}

-- a step says of a group what its own bytes say
said : {rule : Rule} {s : List ℕ} {p : ℕ} {g : List ℕ} {r : Result Step Refusal} → Block s → GroupAt s p g → Steps rule s p r → means_step r ≡ says_by rule g p
said {rule} {s} {p} {g} block k w = w.is ∙ sym (says_group rule s p g block.short k)

pub damage_front : Front
damage_front a x y b p g h =
    let there : GroupAt (a ++ x ++ b) p g ↔ GroupAt (a ++ y ++ b) p g = ends_before groups_local a x y b p g (omega arith) in
    (there, λ rule r r' old new k w w'. same_step r r' (said old k w ∙ sym (said new (there.0 k) w')))

pub damage_back : Back
damage_back a x y b p p' g h e =
    let there : GroupAt (a ++ x ++ b) p g ↔ GroupAt (a ++ y ++ b) p' g = begins_behind groups_local a x y b p p' g (omega arith) e in
    (there, λ rule r r' old new k w w'. (said old k w, said new (there.0 k) w'))

pub damage_back_gap : GapMoves
damage_back_gap a x y b p p' h e rule why at n c r' old new w w' =
    let row = (step_rows rule (a ++ x ++ b) p (Ok (S.Gap (record { 0 = why; 1 = at }) n c)) old.bytes).0 w in
    let k = row.3 in
    let at' : Place = record { 0 = p' + row.1 } in
    let c' : Cursor = record { place = record { 0 = p' + length k.group } } in
    let there = (begins_behind groups_local a x y b p p' k.group (omega arith) e).0 k.stands in
    let kept = step_row_kept rule (a ++ y ++ b) p' (Ok (S.Gap (record { 0 = why; 1 = at' }) n c'))
    (new.short, row.1, refl, record { group = k.group; stands = there; reads = k.reads; count = k.count; next = refl }) in
    (at', c', same_step r' (Ok (S.Gap (record { 0 = why; 1 = at' }) n c')) (w'.is ∙ sym kept.is), omega (arith, row.2, e))

-- reading keeps places and counts
readings_ending : (f : ℕ → Rule) (reach n : ℕ) (l : List (ℕ × ℕ × List ℕ)) → ending reach n (readings f l) ≡ readings f (ending reach n l)
readings_ending f reach n [] = refl
readings_ending f reach n (k ∷ l) = by_test (leb (k.0 + k.1 + reach) n) (λ e. rw (e, readings_ending f reach n l)) (λ e. rw e (readings_ending f reach n l))

readings_from : (f : ℕ → Rule) (n : ℕ) (l : List (ℕ × ℕ × List ℕ)) → from n (readings f l) ≡ readings f (from n l)
readings_from f n [] = refl
readings_from f n (k ∷ l) = by_test (leb n k.0) (λ e. rw (e, readings_from f n l)) (λ e. rw e (readings_from f n l))

-- rules that are chosen alike read alike
alike : (f f' : ℕ → Rule) (n p : ℕ) (gs : List (List ℕ)) → Some gs → p + total gs ≤ n → ((q : ℕ) → q < n → f q ≡ f' q)
    → readings f (placed p gs) ≡ readings f' (placed p gs)
alike f f' n p [] k h e = refl
alike f f' n p (g ∷ gs) k h e = rw (e p (omega (arith, k.0)), alike f f' n (p + length g) gs k.1 (omega arith) e)

moved : (f f' : ℕ → Rule) (n n' p : ℕ) (gs : List (List ℕ)) → ((q : ℕ) → f (n + q) ≡ f' (n' + q))
    → less n (readings f (placed (n + p) gs)) ≡ less n' (readings f' (placed (n' + p) gs))
moved f f' n n' p [] e = refl
moved f f' n n' p (g ∷ gs) e =
    let i : n + p - n ≡ p = omega arith in
    let i' : n' + p - n' ≡ p = omega arith in
    let j : n + p + length g ≡ n + (p + length g) = omega arith in
    let j' : n' + p + length g ≡ n' + (p + length g) = omega arith in
    rw (i, i', j, j', e p, moved f f' n n' (p + length g) gs e)

pub damage_front_read : FrontRead
damage_front_read a x y b f f' l l' old new e k k' = part f x l old k ∙ alike f f' (length a) 0 (cut a).groups (some_each a) (omega (arith, all_bytes a)) e ∙ sym (part f' y l' new k')
  where
    part : (f : ℕ → Rule) (z : List ℕ) (l : List (ℕ × ℕ × Answer Val)) → Block (a ++ z ++ b) → ReaderGives f (a ++ z ++ b) 0 l → ending 0 (length a) l ≡ readings f (listed a)
    part f z l k r =
        rw (reads_all f (a ++ z ++ b) k l r)
        (readings_ending f 0 (length a) (listed (a ++ z ++ b))
        ∙ ap (λ (s : List ℕ). readings f (ending 0 (length a) (listed s))) (append_assoc a z b) ∙ ap (readings f) (ends_within a (z ++ b)))

pub damage_back_read : BackRead
damage_back_read a x y b f f' l l' old new e k k' =
    let n = length (a ++ x) + run b + 1 in
    let n' = length (a ++ y) + run b + 1 in
    let z : n + 0 ≡ n = omega arith in
    let z' : n' + 0 ≡ n' = omega arith in
    ap (less n) (part f (a ++ x) l old k)
    ∙ rw (z, z') at (moved f f' n n' 0 (cut (drop (run b + 1) b)).groups
    (λ q. e (n + q) (n' + q) (omega arith) (omega (arith, length-append a x, length-append a y))))
    ∙ sym (ap (less n') (part f' (a ++ y) l' new k'))
  where
    part : (f : ℕ → Rule) (c : List ℕ) (l : List (ℕ × ℕ × Answer Val)) → Block (c ++ b) → ReaderGives f (c ++ b) 0 l
        → from (length c + run b + 1) l ≡ readings f (placed (length c + run b + 1) (cut (drop (run b + 1) b)).groups)
    part f c l k r =
        rw (reads_all f (c ++ b) k l r)
        (readings_from f (length c + run b + 1) (listed (c ++ b)) ∙ ap (readings f) (begins_from c b (length c + run b + 1) (omega arith) (omega arith)))
