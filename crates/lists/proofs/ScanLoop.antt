-- The first pass: what its loop holds, over the numbers that are left of the block.
--
--   Counted s at count   in a block within the limit, count numbers stand in front of the start at
--   none_counted         none stands in front of place 0
--   start_here           if the block doesn't end there, at is a start before its end
--   one_counted          a number that stands at the start is one more, in front of the start behind it
--   fault_found          the first fault of what is left is that of the block
--   no_numbers_left      at the end of the block no number is left,
--   all_counted          and the block has count numbers
use Prim.Native.Nat.{ℕ, ◌+◌, ◌≤◌, ◌<◌}
use mathlib.Core.Path.{◌≡◌, refl, ap, sym, ◌∙◌}
use mathlib.Core.List.{List, []}
use native.Mathlib.Omega.{arith}
use lib.ListN.{length, drop, length-drop}
use Rattle.words.specs.Answer.{Answer, gives, refused, Why}
use Rattle.blocks.specs.Block.{block_limit}
use Rattle.blocks.specs.GroupsAndTail.{Start}
use Rattle.blocks.proofs.FromStart.{front_start}
use Rattle.lists.specs.Strict.{numbers}
use Rattle.lists.specs.Inner.{many, StartsBefore, Behind, number_ahead}
use Rattle.lists.proofs.NumbersInFront.{numbers_none}

abbrev added : ℕ → Answer ℕ → Answer ℕ
added n (gives m) = gives (n + m)
added n (refused k) = refused k

added_none : (a : Answer ℕ) → a ≡ added 0 a
added_none (gives m) = ap gives (omega arith)
added_none (refused k) = refl

added_one : (n v : ℕ) (a : Answer (List ℕ)) → added n (many (number_ahead v a)) ≡ added (n + 1) (many a)
added_one n v (gives ns) = ap gives (omega arith)
added_one n v (refused k) = refl

-- count numbers stand in front of the start at
pub record Counted (s : List ℕ) (at count : ℕ) : Type 0 where
  pub short : length s ≤ block_limit
  pub start : Start s at
  pub few : count ≤ at
  pub left : many (numbers 0 s) ≡ added count (many (numbers at (drop at s)))

module _ (s : List ℕ) where
  pub none_counted : length s ≤ block_limit → Counted s 0 0
  none_counted h =
      record {
        short = h;
        start = front_start s;
        few = omega arith;
        left = added_none (many (numbers 0 s));
      }

  module _ {at count : ℕ} (g : Counted s at count) where
    pub start_here : at < length s → StartsBefore s at
    start_here h = record { short = g.short; before_end = h; start = g.start }

    pub one_counted : {v q : ℕ} → Behind s at v q → Counted s q (count + 1)
    one_counted {v} {q} b =
        record {
          short = g.short;
          start = b.start;
          few = omega (arith, g.few, b.further);
          left = g.left ∙ rw b.left (added_one count v (numbers q (drop q s)));
        }

    pub fault_found : {k : Why} → numbers at (drop at s) ≡ refused k → refused k ≡ many (numbers 0 s)
    fault_found e = sym (g.left ∙ rw e)

    pub no_numbers_left : length s ≤ at → numbers at (drop at s) ≡ gives []
    no_numbers_left h = numbers_none at (drop at s) (omega (arith, length-drop at s))

    pub all_counted : length s ≤ at → gives count ≡ many (numbers 0 s)
    all_counted h = sym (g.left ∙ rw (no_numbers_left h) (ap gives (omega arith)))
