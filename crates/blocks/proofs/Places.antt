-- The groups of a block as a list: those that end within a part of it, and those that begin at a place or later.
--
--   ends_within   of the groups of a block, those that end within a part in front are the groups of the part
--   from_early    where the first group is placed at n or later, all begin at n or later
--   less_placed   groups placed from n + p on, their places less n, are placed from p on
--   begins_from   what begins at n or later, for n behind a part and at most just past the next byte below 128, is the groups behind that byte
--   high_from     no group begins where no byte below 128 follows, or later
--   from_placed   what begins at a start or later is the groups from there on
use Prim.Native.Nat.{ℕ, ◌+◌, ◌-◌, ◌≤◌, ◌<◌}
use mathlib.Core.Path.{◌≡◌, refl, ap, sym, ◌∙◌}
use mathlib.Core.List.{List, [], ◌∷◌, ◌++◌, append-nil}
use mathlib.Core.Logic.{⊎_elim}
use native.Mathlib.Omega.{arith}
use borrow.Author.Tests.{le-leb, lt-leb}
use lib.ListN.{length, get_or, take, drop, length-append, length-take, take-append-drop}
use lib.Seq.{length-take-le, drop-append-add, drop-drop, get_or-drop}
use Rattle.words.proofs.Cases.{by_order}
use Rattle.groups.specs.Group.{run}
use Rattle.groups.proofs.Run.{run_within, run_ends}
use Rattle.blocks.specs.GroupsAndTail.{cut, Start}
use Rattle.blocks.specs.Places.{placed, listed, ending, from, less}
use Rattle.blocks.proofs.Cut.{cut_group, cut_tail, cut_append, total, all_bytes, Longer, Some, some_each, tail_run, longer_than_tail, drop_all}

-- no group that begins past n ends before it, and none that is long enough to pass it
past : (n p : ℕ) (gs : List (List ℕ)) → n < p → ending 0 n (placed p gs) ≡ []
past n p [] h = refl
past n p (g ∷ gs) h = rw (lt-leb (p + length g + 0) n (omega arith)) (past n (p + length g) gs (omega arith))

late : (n p : ℕ) (gs : List (List ℕ)) (t : ℕ) → n ≤ p + t → Longer t gs → ending 0 n (placed p gs) ≡ []
late n p [] t h l = refl
late n p (g ∷ gs) t h l = rw (lt-leb (p + length g + 0) n (omega (arith, l))) (past n (p + length g) gs (omega (arith, l)))

-- the groups that end within a part are those of the part
early : (n p : ℕ) (gs hs : List (List ℕ)) (t : ℕ) → p + total gs + t ≡ n → Longer t hs → ending 0 n (placed p (gs ++ hs)) ≡ placed p gs
early n p [] hs t h l = late n p hs t (omega arith) l
early n p (g ∷ gs) hs t h l =
    rw (le-leb (p + length g + 0) n (omega arith)) (ap (λ (l : List (ℕ × ℕ × List ℕ)). (p, length g, g) ∷ l) (early n (p + length g) gs hs t (omega arith) l))

pub ends_within : (a z : List ℕ) → ending 0 (length a) (listed (a ++ z)) ≡ listed a
ends_within a z =
    ap (λ (gs : List (List ℕ)). ending 0 (length a) (placed 0 gs)) (cut_append a z)
    ∙ early (length a) 0 (cut a).groups (cut ((cut a).tail ++ z)).groups (length (cut a).tail) (omega (arith, all_bytes a)) (longer_than_tail a z)

-- groups that begin before n are left out, and those from n on stay
skipped : (n p : ℕ) (gs hs : List (List ℕ)) → p + total gs < n → from n (placed p (gs ++ hs)) ≡ from n (placed (p + total gs) hs)
skipped n p [] hs h = let e : p + 0 ≡ p = omega arith in rw e
skipped n p (g ∷ gs) hs h =
    let e : p + (length g + total gs) ≡ p + length g + total gs = omega arith in
    rw (lt-leb n p (omega arith), e) (skipped n (p + length g) gs hs (omega arith))

from_early : (n p : ℕ) (gs : List (List ℕ)) → n ≤ p → from n (placed p gs) ≡ placed p gs
from_early n p [] h = refl
from_early n p (g ∷ gs) h = rw (le-leb n p h, from_early n (p + length g) gs (omega arith))

pub less_placed : (n p : ℕ) (gs : List (List ℕ)) → less n (placed (n + p) gs) ≡ placed p gs
less_placed n p [] = refl
less_placed n p (g ∷ gs) =
    let e : n + p + length g ≡ n + (p + length g) = omega arith in
    let m : n + p - n ≡ p = omega arith in
    rw (e, m, less_placed n (p + length g) gs)

pub begins_from : (a b : List ℕ) (n : ℕ) → length a < n → n ≤ length a + run b + 1
    → from n (listed (a ++ b)) ≡ placed (length a + run b + 1) (cut (drop (run b + 1) b)).groups
unfolding cut
begins_from a b n behind there =
    ap (λ (gs : List (List ℕ)). from n (placed 0 gs)) (cut_append a b)
    ∙ skipped n 0 (cut a).groups (cut (t ++ b)).groups (omega (arith, all_bytes a))
    ∙ by_order (run b) (length b) some_low none_low
  where
    t : List ℕ
    t = (cut a).tail

    some_low : run b < length b → from n (placed (0 + total (cut a).groups) (cut (t ++ b)).groups) ≡ placed (length a + run b + 1) (cut (drop (run b + 1) b)).groups
    some_low h =
        let r : run (t ++ b) < length (t ++ b) = rw length-append (omega (arith, tail_run a b)) in
        let l : length (take (run (t ++ b) + 1) (t ++ b)) ≡ run (t ++ b) + 1 = length-take-le (run (t ++ b) + 1) (t ++ b) (omega arith) in
        let e : 0 + total (cut a).groups + length (take (run (t ++ b) + 1) (t ++ b)) ≡ length a + run b + 1 = omega (arith, l, tail_run a b, all_bytes a) in
        let i : run (t ++ b) + 1 ≡ length t + (run b + 1) = omega (arith, tail_run a b) in
        let d : drop (run (t ++ b) + 1) (t ++ b) ≡ drop (run b + 1) b = rw i (drop-append-add t b (run b + 1)) in
        rw (cut_group (t ++ b) r, lt-leb n (0 + total (cut a).groups) (omega (arith, all_bytes a)), e, d) (from_early n (length a + run b + 1) (cut (drop (run b + 1) b)).groups there)

    none_low : length b ≤ run b → from n (placed (0 + total (cut a).groups) (cut (t ++ b)).groups) ≡ placed (length a + run b + 1) (cut (drop (run b + 1) b)).groups
    none_low h =
        let r : run (t ++ b) ≡ length (t ++ b) = rw length-append (omega (arith, tail_run a b, run_within b)) in
        rw (cut_tail (t ++ b) r, drop_all b h) refl

-- no group begins where the last one ends, or later
none_past : (n p : ℕ) (gs : List (List ℕ)) → Some gs → p + total gs ≤ n → from n (placed p gs) ≡ []
none_past n p [] k h = refl
none_past n p (g ∷ gs) k h = rw (lt-leb n p (omega (arith, k.0))) (none_past n (p + length g) gs k.1 (omega arith))

-- bytes of 128 or more at the end of a block make no group
high_listed : (a b : List ℕ) → length b ≤ run b → listed (a ++ b) ≡ listed a
high_listed a b h =
    let t = (cut a).tail in
    let r : run (t ++ b) ≡ length (t ++ b) = rw length-append (omega (arith, tail_run a b, run_within b)) in
    let gs : (cut (a ++ b)).groups ≡ (cut a).groups = cut_append a b ∙ rw (cut_tail (t ++ b) r) (append-nil (cut a).groups) in
    ap (placed 0) gs

pub high_from : (s : List ℕ) (n : ℕ) → length (drop n s) ≤ run (drop n s) → from n (listed s) ≡ []
high_from s n h =
    let a = take n s in
    ap (λ (l : List ℕ). from n (listed l)) (sym (take-append-drop n s))
    ∙ ap (from n) (high_listed a (drop n s) h)
    ∙ none_past n 0 (cut a).groups (some_each a) (omega (arith, all_bytes a, length-take n s))

pub from_placed : (s : List ℕ) (p : ℕ) → Start s p → from p (listed s) ≡ placed p (cut (drop p s)).groups
from_placed s p k =
    ⊎_elim (λ (e : p ≡ 0). rw e (from_early 0 0 (cut s).groups (omega arith)))
    (λ (h : (0 < p) × (get_or s (p - 1) 0 < 128)).
    let a = take (p - 1) s in
    let b = drop (p - 1) s in
    let i : p - 1 + 0 ≡ p - 1 = omega arith in
    let none : run b ≡ 0 = run_ends b 0 (omega arith) (rw (get_or-drop (p - 1) s 0 0, i) h.1) in
    let t : length a ≡ p - 1 = length-take-le (p - 1) s (omega (arith, k.here)) in
    let n : length a + run b + 1 ≡ p = omega (arith, none, t, h.0) in
    let m : p - 1 + (run b + 1) ≡ p = omega (arith, none, h.0) in
    let d : drop (run b + 1) b ≡ drop p s = drop-drop (run b + 1) (p - 1) s ∙ ap (λ (i : ℕ). drop i s) m in
    ap (λ (l : List ℕ). from p (listed l)) (sym (take-append-drop (p - 1) s))
    ∙ begins_from a b p (omega (arith, t, h.0)) (omega (arith, n)) ∙ rw (n, d))
    k.behind
