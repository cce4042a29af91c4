-- Document 01, "Blocks, groups and tails": strict reading, over lists of numbers.
--
--   numbers_of p gs t   the numbers of the groups gs, one after another from the place p on, if each is one and there is no tail t; else the first
--                       fault with its place: 2 or 3 in a group, decided by a byte of it; 1 for a tail, decided by the place behind it;
--                       `joined` puts the first in front of the others, and `numbers p l` is that of the bytes l from the place p on
--   strict s room       the answer of strict reading of the block s into a slice of so many numbers: how many, or 7, the first fault, 5;
--                       `counted`: from the numbers
--   filled s old        the slice afterwards; `filling`: from the numbers
use Rattle.std.specs.Prelude.{ℕ, ◌+◌, List, [], ◌∷◌, ◌++◌, leb, ltb, length, drop}
use Rattle.words.specs.Answer.{pick, Answer, gives, refused, by, by_at, moved}
use Rattle.groups.specs.Width.{reading}
use Rattle.uleb128.specs.Unsigned.{u64}
use Rattle.blocks.specs.Block.{block_limit}
use Rattle.blocks.specs.GroupsAndTail.{cut}

abbrev pub joined : Answer (ℕ × ℕ) → Answer (List ℕ) → Answer (List ℕ)
joined (refused k) a = refused k
joined (gives p) (refused k) = refused k
joined (gives p) (gives ns) = gives (p.0 ∷ ns)

unfoldable pub numbers_of : ℕ → List (List ℕ) → List ℕ → Answer (List ℕ)
numbers_of p [] [] = gives []
numbers_of p [] (b ∷ t) = refused (by_at 1 (p + length (b ∷ t)))
numbers_of p (g ∷ gs) t = joined (moved p (reading u64 g)) (numbers_of (p + length g) gs t)

abbrev pub numbers : ℕ → List ℕ → Answer (List ℕ)
numbers p l = numbers_of p (cut l).groups (cut l).tail

abbrev pub counted : Answer (List ℕ) → ℕ → Answer ℕ
counted (refused k) room = refused k
counted (gives ns) room = pick (leb (length ns) room) (gives (length ns)) (refused (by 5))

abbrev pub filling : Answer (List ℕ) → List ℕ → List ℕ
filling (refused k) old = old
filling (gives ns) old = pick (leb (length ns) (length old)) (ns ++ drop (length ns) old) old

unfoldable pub strict : List ℕ → ℕ → Answer ℕ
strict s room = pick (ltb block_limit (length s)) (refused (by 7)) (counted (numbers 0 s) room)

unfoldable pub filled : List ℕ → List ℕ → List ℕ
filled s old = pick (ltb block_limit (length s)) old (filling (numbers 0 s) old)
