-- What a step from a start before the block's end says of the numbers that are left there.
--
--   Possible x      x is an unsigned number, a gap or a tail
--   pass_possible   a step by the unsigned rule says one of these
--   pass_tail       where it says a tail, the first fault of what is left is 1, decided by the block's end
--   pass_gap        where it says a gap, the first fault of what is left is the gap's
--   pass_number     where it says a number, that is the first of what is left, and a start stands behind it
use Prim.Native.Nat.{ℕ, ◌+◌}
use mathlib.Core.Path.{◌≡◌, refl, ◌∙◌}
use mathlib.Core.List.{List}
use native.Mathlib.Omega.{arith}
use lib.ListN.{length, drop, length-drop}
use Rattle.words.specs.Answer.{Answer, gives, refused, by_at, Why, moved_why, moved}
use Rattle.words.proofs.Moved.{same_place}
use Rattle.groups.specs.Width.{reading}
use Rattle.groups.proofs.Run.{high_full}
use Rattle.uleb128.specs.Unsigned.{u64}
use Rattle.blocks.specs.Block.{unsigned, signed, Stepped, number, gap, tail, finished, refuses, valued, says, stepping}
use Rattle.blocks.specs.GroupsAndTail.{TailAt}
use Rattle.blocks.specs.declared.Rule.TheVariants.{Unsigned}
use Rattle.blocks.proofs.FromStart.{GroupHere, AtStart, the_end, a_tail, a_group, from_start, here_long, next_start, group_cut, tail_says, group_says}
use Rattle.lists.specs.Strict.{joined, numbers_of, numbers}
use Rattle.lists.specs.Inner.{StartsBefore, Behind, number_ahead}
use Rattle.lists.proofs.NumbersInFront.{numbers_tail}

-- what a group's step says, taken apart by its case
said_number : (a : Answer (ℕ × ℕ)) (n p : ℕ) {v m q : ℕ} → number (unsigned v) m q ≡ says (moved p (valued unsigned a)) n p → ((i : ℕ) × (a ≡ gives (v, i))) × (q ≡ p + n)
said_number (gives x) n p {v} {m} {q} e = let f : v ≡ x.0 = cc in let h : q ≡ p + n = cc in ((x.1, rw f), h)
said_number (refused k) n p e = let z : ◌≡◌ {A = ℕ} 0 1 = cc in absurd (omega arith)

said_gap : (a : Answer (ℕ × ℕ)) (n p : ℕ) {k : Why} {m q : ℕ} → gap k m q ≡ says (moved p (valued unsigned a)) n p → moved p a ≡ refused k
said_gap (gives x) n p e = let z : ◌≡◌ {A = ℕ} 0 1 = cc in absurd (omega arith)
said_gap (refused k) n p {k = j} e = let f : j ≡ moved_why p k = cc in rw f

said_no_tail : {X : Type 0} (a : Answer (ℕ × ℕ)) (n p : ℕ) {m q : ℕ} → tail m q ≡ says (moved p (valued unsigned a)) n p → X
said_no_tail (gives x) n p e = let z : ◌≡◌ {A = ℕ} 0 1 = cc in absurd (omega arith)
said_no_tail (refused k) n p e = let z : ◌≡◌ {A = ℕ} 0 1 = cc in absurd (omega arith)

joined_ahead : (v m : ℕ) (a : Answer (List ℕ)) → joined (gives (v, m)) a ≡ number_ahead v a
joined_ahead v m (gives ns) = refl
joined_ahead v m (refused k) = refl

-- what a step can say from a start before the end
abbrev pub Possible : Stepped → Type 0
Possible (number (unsigned v) m q) = Unit
Possible (number (signed v) m q) = ⊥
Possible (gap k m q) = Unit
Possible (tail m q) = Unit
Possible (finished q) = ⊥
Possible (refuses k) = ⊥

said_possible : (a : Answer (ℕ × ℕ)) (n p : ℕ) → Possible (says (moved p (valued unsigned a)) n p)
said_possible (gives x) n p = tt
said_possible (refused k) n p = tt

module _ (s : List ℕ) (p : ℕ) (here : StartsBefore s p) where
  -- a step there is a tail's or a group's
  by_step : {P : Type 0} → (TailAt s p → P) → ((g : List ℕ) → GroupHere s p g → P) → P
  by_step {P} f g = go (from_start here.start)
    where
      go : AtStart s p → P
      go (the_end e) = absurd (omega (arith, here.before_end))
      go (a_tail k) = f k
      go (a_group l k) = g l k

  at_tail : TailAt s p → stepping Unsigned s p ≡ tail (length (drop p s)) p
  at_tail k = tail_says k Unsigned here.short

  at_group : (g : List ℕ) → GroupHere s p g → stepping Unsigned s p ≡ says (moved p (valued unsigned (reading u64 g))) (length g) p
  at_group g k = group_says k Unsigned here.short here.start

  pub pass_possible : {x : Stepped} → x ≡ stepping Unsigned s p → Possible x
  pass_possible e = by_step (λ k. rw (e, at_tail k) tt) (λ g k. rw (e, at_group g k) (said_possible (reading u64 g) (length g) p))

  pub pass_tail : {m q : ℕ} → tail m q ≡ stepping Unsigned s p → numbers p (drop p s) ≡ refused (by_at 1 (length s))
  pass_tail e =
      by_step
      (λ k. numbers_tail p (drop p s) (high_full (drop p s) k.high) (omega (arith, length-drop p s, here.before_end))
      ∙ same_place (omega (arith, length-drop p s, here.before_end)))
      (λ g k. said_no_tail (reading u64 g) (length g) p (e ∙ at_group g k))

  numbers_here : (g : List ℕ) → GroupHere s p g → numbers p (drop p s) ≡ joined (moved p (reading u64 g)) (numbers (p + length g) (drop (p + length g) s))
  unfolding numbers_of
  numbers_here g k = rw (group_cut k)

  pub pass_gap : {k : Why} {m q : ℕ} → gap k m q ≡ stepping Unsigned s p → numbers p (drop p s) ≡ refused k
  pass_gap {k} {m} {q} e =
      by_step (λ t. let f : gap k m q ≡ tail (length (drop p s)) p = e ∙ at_tail t in let z : ◌≡◌ {A = ℕ} 0 1 = cc in absurd (omega arith))
      (λ g h. numbers_here g h ∙ rw (said_gap (reading u64 g) (length g) p (e ∙ at_group g h)))

  -- the group is a number: the place behind it is a start
  number_next : (g : List ℕ) → GroupHere s p g → {v m q : ℕ} → number (unsigned v) m q ≡ stepping Unsigned s p → Behind s p v q
  number_next g k {v} {m} {q} e =
      let d = said_number (reading u64 g) (length g) p (e ∙ at_group g k) in
      rw d.1 (record {
        further = omega (arith, here_long k);
        start = next_start k;
        left = numbers_here g k ∙ rw d.0.1 (joined_ahead v d.0.0 (numbers (p + length g) (drop (p + length g) s)));
      })

  pub pass_number : {v m q : ℕ} → number (unsigned v) m q ≡ stepping Unsigned s p → Behind s p v q
  pass_number {v} {m} {q} e =
      by_step
      (λ k. let f : number (unsigned v) m q ≡ tail (length (drop p s)) p = e ∙ at_tail k in let z : ◌≡◌ {A = ℕ} 0 1 = cc in absurd (omega arith))
      (λ g k. number_next g k e)
