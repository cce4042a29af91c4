-- Document 02, #102: where an entry stands. Nothing here knows what an entry says, nor of the limit of a block.
--
--   mark             the group 80 00, which opens an entry; it is no number's shortest form
--   EndsAt s m       an entry can end at m: a mark stands there, or it is the end of s
--   NextMark s p m   m is the place of the least mark at p or later, or, where there is none, the end of s
--   EntryAt s p e    the bytes e, from the mark at p on, are an entry: they run to the next mark, or to the end of s
use Rattle.std.specs.Prelude.{ℕ, ◌+◌, ◌≤◌, ◌<◌, ◌≡◌, List, [], ◌∷◌, ◌⊎◌, length, take, drop}
use Rattle.blocks.specs.GroupsAndTail.{GroupAt}

abbrev pub mark : List ℕ
mark = 128 ∷ 0 ∷ []

abbrev pub EndsAt : List ℕ → ℕ → Type 0
EndsAt s m = GroupAt s m mark ⊎ (m ≡ length s)

pub record NextMark (s : List ℕ) (p m : ℕ) : Type 0 where
  pub from : p ≤ m
  pub none_before : (q : ℕ) → p ≤ q → q < m → GroupAt s q mark → ⊥
  pub there : EndsAt s m

pub record EntryAt (s : List ℕ) (p : ℕ) (e : List ℕ) : Type 0 where
  pub opens : GroupAt s p mark
  pub there : take (length e) (drop p s) ≡ e
  pub ends : NextMark s (p + 2) (p + length e)
