-- Document 01, "Blocks, groups and tails": what stands where in a block.
--
--   Start s p       p is place 0, or just past a byte below 128, up to and including the length of the block
--   GroupAt s p g   the group g begins at the start p
--   TailAt s p      a tail begins at the start p
--   Cut             groups in their order, and what is behind the last of them
--   cut s           the block s, cut after each byte below 128: each byte is put in front of what follows it, as a group of its own (`alone`) or in
--                   the first group or the tail (`infront`)
use Rattle.std.specs.Prelude.{ℕ, ◌-◌, ◌≤◌, ◌<◌, ◌≡◌, ◌⊎◌, List, [], ◌∷◌, length, get_or, take, drop, ltb}
use Rattle.words.specs.Answer.{pick}
use Rattle.groups.specs.Group.{High, Group}

pub record Start (s : List ℕ) (p : ℕ) : Type 0 where
  pub here : p ≤ length s
  pub behind : (p ≡ 0) ⊎ ((0 < p) × (get_or s (p - 1) 0 < 128))

pub record GroupAt (s : List ℕ) (p : ℕ) (g : List ℕ) : Type 0 where
  pub start : Start s p
  pub is_group : Group g
  pub there : take (length g) (drop p s) ≡ g

pub record TailAt (s : List ℕ) (p : ℕ) : Type 0 where
  pub start : Start s p
  pub some : p < length s
  pub high : High (drop p s)

pub record Cut : Type 0 where
  pub groups : List (List ℕ)
  pub tail : List ℕ

-- a byte below 128 is a group of its own; another goes to the front of the first group, or of the tail
abbrev pub alone : ℕ → Cut → Cut
alone b c = record { groups = (b ∷ []) ∷ c.groups; tail = c.tail }

abbrev pub infront : ℕ → List (List ℕ) → List ℕ → Cut
infront b [] t = record { groups = []; tail = b ∷ t }
infront b (g ∷ gs) t = record { groups = (b ∷ g) ∷ gs; tail = t }

unfoldable pub cut : List ℕ → Cut
cut [] = record { groups = []; tail = [] }
cut (b ∷ s) = pick (ltb b 128) (alone b (cut s)) (infront b (cut s).groups (cut s).tail)
