-- What stands at a start: the end, a tail, or a group with a start behind it; how the block is cut there, and what a step says there.
--
--   front_start                       place 0 is a start
--   start_true, true_start            up to the end of the block, the test for a start holds exactly at starts
--   GroupHere s p g                   g is the bytes of s from the place p through the first below 128
--   AtStart s p                       what stands at p: `the_end`, `a_tail` or `a_group`
--   from_start                        one of them stands at every start
--   end_cut, tail_cut, group_cut      how the block is cut from there on
--   end_says, tail_says, group_says   what a step says there
--   here_long, here_within            the group's length, and that it lies within the block
--   next_start                        behind the group stands a start
--   here_group, group_here            at a start of a block of bytes they are a group; and a group that stands there is these bytes
use Prim.Native.Nat.{ℕ, ◌+◌, ◌-◌, ◌≤◌, ◌<◌}
use mathlib.Core.Path.{◌≡◌, refl, ap, sym, ◌∙◌}
use mathlib.Core.List.{List, [], ◌++◌}
use mathlib.Core.Bool.{true}
use mathlib.Core.Logic.{inl, inr, ⊎_elim}
use native.Mathlib.Omega.{arith}
use borrow.Author.Tests.{lt-ltb, eq-eqb, ne_eqb, ltb-true}
use lib.ListN.{length, get_or, take, drop, length-append, length-drop, take-append-drop, drop_of_length-le}
use lib.Seq.{length-take-le, drop-drop, get_or-drop}
use Rattle.words.specs.declared.Count.{Count}
use Rattle.words.proofs.Cases.{by_order}
use Rattle.groups.specs.Group.{Bytes, run}
use Rattle.groups.proofs.Exact.{group_length}
use Rattle.groups.proofs.Run.{at_run, high_full, full_high}
use Rattle.groups.proofs.Stands.{front_group, run_behind}
use Rattle.blocks.specs.Block.{is_start_lem, tail, finished, says_by, stepping, block_limit}
use Rattle.blocks.specs.GroupsAndTail.{Start, GroupAt, TailAt, cut}
use Rattle.blocks.specs.declared.Cursor.{Cursor}
use Rattle.blocks.specs.declared.Rule.{Rule}
use Rattle.blocks.proofs.Cut.{grouped, cut_group, cut_tail}
use Rattle.blocks.proofs.Rows.{step_finished, step_tail, step_says}

pub front_start : (s : List ℕ) → Start s 0
front_start s = record { here = omega arith; behind = inl refl }

pub start_true : {s : List ℕ} {p : ℕ} → Start s p → is_start_lem s p ≡ true
unfolding is_start_lem
start_true {s} {p} k =
    ⊎_elim (λ (e : p ≡ 0). rw (eq-eqb p 0 e))
    (λ (b : (0 < p) × (get_or s (p - 1) 0 < 128)). rw (ne_eqb p 0 (λ e. omega (arith, b.0)), lt-ltb (get_or s (p - 1) 0) 128 b.1))
    k.behind

pub true_start : (s : List ℕ) (p : ℕ) → p ≤ length s → is_start_lem s p ≡ true → Start s p
unfolding is_start_lem
true_start s p h e =
    by_order 0 p
    (λ l. record { here = h; behind = inr (l, ltb-true (get_or s (p - 1) 0) 128 (rw (ne_eqb p 0 (λ z. omega arith)) at e)) })
    (λ l. record { here = h; behind = inl (omega arith) })

pub record GroupHere (s : List ℕ) (p : ℕ) (g : List ℕ) : Type 0 where
  pub closes : run (drop p s) < length (drop p s)
  pub is : g ≡ take (run (drop p s) + 1) (drop p s)

pub data AtStart (s : List ℕ) (p : ℕ) : Type 0 where
  the_end : p ≡ length s → AtStart s p
  a_tail : TailAt s p → AtStart s p
  a_group : (g : List ℕ) → GroupHere s p g → AtStart s p

pub from_start : {s : List ℕ} {p : ℕ} → Start s p → AtStart s p
from_start {s} {p} k =
    by_order p (length s)
    (λ some.
    by_order (run (drop p s)) (length (drop p s))
    (λ c. a_group (take (run (drop p s) + 1) (drop p s)) (record { closes = c; is = refl }))
    (λ c. a_tail (record { start = k; some = some; high = full_high (drop p s) c })))
    (λ l. the_end (omega (arith, k.here)))

abbrev cursor : ℕ → Cursor
cursor p = record { place = record { 0 = p } }

module _ (s : List ℕ) (p : ℕ) (e : p ≡ length s) where
  pub end_cut : cut (drop p s) ≡ record { groups = []; tail = [] }
  unfolding cut
  end_cut = rw (drop_of_length-le s {i = p} (omega arith))

  pub end_says : (rule : Rule) → length s ≤ block_limit → stepping rule s p ≡ finished p
  end_says rule f = sym (step_finished rule s p f (cursor p) refl (omega arith) (omega arith)).is

module _ {s : List ℕ} {p : ℕ} (k : TailAt s p) where
  all_tail : run (drop p s) ≡ length (drop p s)
  all_tail = high_full (drop p s) k.high

  pub tail_cut : cut (drop p s) ≡ record { groups = []; tail = drop p s }
  tail_cut = cut_tail (drop p s) all_tail

  pub tail_says : (rule : Rule) → length s ≤ block_limit → stepping rule s p ≡ tail (length (drop p s)) p
  tail_says rule f =
      let n : Count = record { 0 = length (drop p s) } in
      sym (step_tail rule s p f k.some (start_true k.start) n (cursor p) (sym all_tail) refl (omega (arith, all_tail, length-drop p s))).is

module _ {s : List ℕ} {p : ℕ} {g : List ℕ} (k : GroupHere s p g) where
  pub here_long : length g ≡ run (drop p s) + 1
  here_long = rw k.is (length-take-le (run (drop p s) + 1) (drop p s) (omega (arith, k.closes)))

  pub here_within : p + length g ≤ length s
  here_within = omega (arith, here_long, k.closes, length-drop p s)

  pub next_start : Start s (p + length g)
  next_start =
      let i : p + length g - 1 ≡ p + run (drop p s) = omega (arith, here_long) in
      record {
        here = here_within;
        behind = inr (omega (arith, here_long), rw (i, ← (get_or-drop p s (run (drop p s)) 0)) (at_run (drop p s) k.closes));
      }

  pub group_cut : cut (drop p s) ≡ grouped g (cut (drop (p + length g) s))
  group_cut =
      let l = drop p s in
      let d : drop (run l + 1) l ≡ drop (p + length g) s = drop-drop (run l + 1) p s ∙ ap (λ (i : ℕ). drop (p + i) s) (sym here_long) in
      cut_group l k.closes ∙ rw (d, ← k.is)

  pub group_says : (rule : Rule) → length s ≤ block_limit → Start s p → stepping rule s p ≡ says_by rule g p
  group_says rule f st =
      step_says rule s p f (omega (arith, here_long, here_within)) (start_true st) (omega (arith, here_long, here_within))
      ∙ ap (λ (t : List ℕ). says_by rule t p) (sym k.is)

  pub here_group : Bytes s → Start s p → GroupAt s p g
  here_group bytes st =
      let r = front_group (drop p s) (λ i. rw (get_or-drop p s i 0) (bytes (p + i))) k.closes in
      record { start = st; is_group = rw k.is r; there = rw (here_long, ← k.is) }

pub group_here : {s : List ℕ} {p : ℕ} {g : List ℕ} → GroupAt s p g → GroupHere s p g
group_here {s} {p} {g} k =
    let l = drop p s in
    let split : l ≡ g ++ drop (length g) l = sym (take-append-drop (length g) l) ∙ ap (λ (t : List ℕ). t ++ drop (length g) l) k.there in
    let same : run l ≡ run g = ap run split ∙ run_behind (drop (length g) l) k.is_group in
    let n : run l + 1 ≡ length g = omega (arith, same, group_length k.is_group) in
    record {
      closes = omega (arith, n, ap length split ∙ length-append g (drop (length g) l));
      is = sym (rw n k.there);
    }
