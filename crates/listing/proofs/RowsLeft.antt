-- The rows that are left at a place of a block, and what a step there says of them.
--
--   Here s p                          the place p is a start of the block s, or its end
--   left s p                          the rows that are left there
--   end_left, tail_left, group_left   what they are at the end, at a tail and at a group
--   Rowing s p x                      x is the line of what stands there: none, where no row is left; or the first row that is left, with how many bytes it is of
--   rowing                            so is the line of what a step says there, by the unsigned rule
--   no_row, next_row                  what that says where a line is `none`, and where it is one (`Behind`: what is behind it)
use Prim.Native.Nat.{ℕ, ◌+◌, ◌≤◌, ◌<◌}
use mathlib.Core.Path.{◌≡◌, refl, sym, ◌∙◌}
use mathlib.Core.Logic.{◌⊎◌, inl, inr, ⊎_elim}
use mathlib.Core.List.{List, [], ◌∷◌, ◌++◌, append-nil}
use native.Mathlib.Omega.{arith}
use lib.ListN.{length, drop, length-drop}
use Rattle.words.specs.Answer.{Answer, gives, refused, moved}
use Rattle.words.proofs.Moved.{number_kept}
use Rattle.texts.specs.Texts.{ascii}
use Rattle.groups.specs.Width.{reading}
use Rattle.uleb128.specs.Unsigned.{u64}
use Rattle.blocks.specs.Block.{unsigned, valued, says, stepping, block_limit}
use Rattle.blocks.specs.GroupsAndTail.{Start, TailAt, cut}
use Rattle.blocks.specs.declared.Rule.TheVariants.{Unsigned}
use Rattle.blocks.proofs.FromStart.{GroupHere, AtStart, the_end, a_tail, a_group, from_start, here_long, here_within, next_start, end_cut, tail_cut, group_cut, end_says, tail_says, group_says}
use Rattle.listing.specs.Listing.{row, fault, row_of, group_row, rows}
use Rattle.listing.specs.Inner as Inner
use Rattle.listing.specs.Inner.{Line, none, line_said}

abbrev pub Here : List ℕ → ℕ → Type 0
Here s p = Start s p ⊎ (p ≡ length s)

abbrev pub left : List ℕ → ℕ → List ℕ
left s p = rows p (cut (drop p s)).groups (cut (drop p s)).tail

pub record Behind (s : List ℕ) (p : ℕ) (what : List ℕ) (v n : ℕ) : Type 0 where
  pub here : Here s (p + n)
  pub some : 0 < n
  pub within : p + n ≤ length s
  pub goes_on : left s p ≡ row p what v ++ left s (p + n)

pub data Rowing (s : List ℕ) (p : ℕ) : Line → Type 0 where
  over : left s p ≡ [] → Rowing s p none
  more : (what : List ℕ) (v n : ℕ) → Behind s p what v n → Rowing s p (Inner.says what v n)

tail_row : (p : ℕ) (t : List ℕ) → 0 < length t → rows p [] t ≡ row p (ascii "tail") (length t)
unfolding rows
tail_row p [] h = absurd (omega arith)
tail_row p (c ∷ t) h = refl

pub end_left : (s : List ℕ) (p : ℕ) → p ≡ length s → left s p ≡ []
unfolding rows
end_left s p e = rw (end_cut s p e)

pub tail_left : (s : List ℕ) (p : ℕ) → TailAt s p → left s p ≡ row p (ascii "tail") (length (drop p s))
tail_left s p k = rw (tail_cut k) (tail_row p (drop p s) (omega (arith, length-drop p s, k.some)))

pub group_left : (s : List ℕ) (p : ℕ) (g : List ℕ) → GroupHere s p g → left s p ≡ group_row p g ++ left s (p + length g)
unfolding rows
group_left s p g k = rw (group_cut k)

-- a group's line, whether it is a number or not
group_rowing : (s : List ℕ) (p n : ℕ) (a : Answer (ℕ × ℕ)) → Here s (p + n) → 0 < n → p + n ≤ length s → left s p ≡ row_of p a n ++ left s (p + n)
    → Rowing s p (line_said (says (moved p (valued unsigned a)) n p))
group_rowing s p n (gives v) h i j e = more (ascii "number") v.0 n (record { here = h; some = i; within = j; goes_on = e })
group_rowing s p n (refused k) h i j e =
    rw (number_kept p k) (more (fault k) n n (record { here = h; some = i; within = j; goes_on = e }))

at_start : (s : List ℕ) (p : ℕ) → length s ≤ block_limit → Start s p → AtStart s p → Rowing s p (line_said (stepping Unsigned s p))
at_start s p short st (the_end e) = rw (end_says s p e Unsigned short) (over (end_left s p e))
at_start s p short st (a_tail k) =
    let l = drop p s in
    let n : p + length l ≡ length s = omega (arith, length-drop p s, k.some) in
    rw (tail_says k Unsigned short)
    (more (ascii "tail") (length l) (length l) (record {
      here = inr n;
      some = omega (arith, n, k.some);
      within = omega (arith, n);
      goes_on = rw (end_left s (p + length l) n) (tail_left s p k ∙ sym (append-nil (row p (ascii "tail") (length l))));
    }))
at_start s p short st (a_group g k) =
    rw (group_says k Unsigned short st)
    (group_rowing s p (length g) (reading u64 g) (inl (next_start k)) (omega (arith, here_long k)) (here_within k) (group_left s p g k))

pub rowing : (s : List ℕ) (p : ℕ) → length s ≤ block_limit → Here s p → Rowing s p (line_said (stepping Unsigned s p))
rowing s p short h =
    ⊎_elim (λ (st : Start s p). at_start s p short st (from_start st))
    (λ (e : p ≡ length s). rw (end_says s p e Unsigned short) (over (end_left s p e)))
    h

module _ {s : List ℕ} {p : ℕ} where
  pub no_row : {x : Line} → Rowing s p x → none ≡ x → left s p ≡ []
  no_row (over e) f = e
  no_row (more what v n b) f = let z : ◌≡◌ {A = ℕ} 0 1 = cc in absurd (omega arith)

  pub next_row : {x : Line} {what : List ℕ} {v n : ℕ} → Rowing s p x → Inner.says what v n ≡ x → Behind s p what v n
  next_row (over e) f = let z : ◌≡◌ {A = ℕ} 0 1 = cc in absurd (omega arith)
  next_row {what = what} {v} {n} (more what' v' n' b) f =
      let i : what ≡ what' = cc in
      let j : v ≡ v' = cc in
      let k : n ≡ n' = cc in
      rw (i, j, k) b
