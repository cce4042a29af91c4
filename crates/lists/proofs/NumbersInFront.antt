-- The numbers of a block, by what stands at its front: a group, a tail, or nothing.
--
--   numbers_group   with a group in front, they are its number and those of what is behind it, or the first fault of both
--   numbers_tail    a block that is all tail has the fault 1, decided by its end
--   numbers_none    an empty block has no numbers, and no fault
use Prim.Native.Nat.{ℕ, ◌+◌, ◌<◌}
use mathlib.Core.Path.{◌≡◌, refl}
use mathlib.Core.List.{List, [], ◌∷◌}
use native.Mathlib.Omega.{arith}
use lib.ListN.{length, take, drop}
use Rattle.words.specs.Answer.{gives, refused, by_at, moved}
use Rattle.groups.specs.Group.{run}
use Rattle.groups.specs.Width.{reading}
use Rattle.uleb128.specs.Unsigned.{u64}
use Rattle.blocks.specs.GroupsAndTail.{cut}
use Rattle.blocks.proofs.Cut.{cut_group, cut_tail}
use Rattle.lists.specs.Strict.{joined, numbers_of, numbers}

pub numbers_group : (p : ℕ) (l : List ℕ) → run l < length l
    → numbers p l ≡ joined (moved p (reading u64 (take (run l + 1) l))) (numbers (p + length (take (run l + 1) l)) (drop (run l + 1) l))
unfolding numbers_of
numbers_group p l h = rw (cut_group l h)

pub numbers_tail : (p : ℕ) (l : List ℕ) → run l ≡ length l → 0 < length l → numbers p l ≡ refused (by_at 1 (p + length l))
unfolding numbers_of
numbers_tail p [] h s = absurd (omega arith)
numbers_tail p (b ∷ l) h s = rw (cut_tail (b ∷ l) h)

pub numbers_none : (p : ℕ) (l : List ℕ) → length l ≡ 0 → numbers p l ≡ gives []
unfolding numbers_of cut
numbers_none p [] h = refl
numbers_none p (b ∷ l) h = absurd (omega arith)
