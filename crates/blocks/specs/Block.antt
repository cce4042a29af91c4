-- Document 01, "Blocks, groups and tails".
--
--   block_limit         the most bytes of a block
--   is_start_lem s p    p is 0, or stands just past a byte below 128
--   Val                 a number by the rule that it was read by
--   read_by rule g      the reading of a group by the rule: its number, or the reason why it has none, with the place of the byte that decided it,
--                       counted from the group's front; `valued` says by which rule it was read
--   Stepped             what a step says, in document 01's numbers and values; its last number is the place of the cursor handed back
--   says, says_by       what a step says of a group: its number, or else a gap, whose place is counted from the block's front
--   stepping rule s p   the rows of a step in their order
--   setting_down s p    the least start at or after p, or 8
use Rattle.std.specs.Prelude.{ℕ, ◌+◌, ◌-◌, List, Bool, not, leb, ltb, eqb, ℤ, length, get_or, take, drop}
use Rattle.words.specs.Answer.{pick, Answer, gives, refused, either, by, Why, moved}
use Rattle.groups.specs.Group.{run}
use Rattle.groups.specs.Width.{reading}
use Rattle.uleb128.specs.Unsigned.{u64}
use Rattle.sleb128.specs.Signed.{i64}
use Rattle.blocks.specs.declared.Rule.{Rule}
use Rattle.blocks.specs.declared.Rule.TheVariants.{Unsigned, Signed}

abbrev pub block_limit : ℕ
block_limit = 65536

unfoldable pub is_start_lem : List ℕ → ℕ → Bool
is_start_lem s p = either (eqb p 0) (ltb (get_or s (p - 1) 0) 128)

pub data Val : Type 0 where
  unsigned : ℕ → Val
  signed : ℤ → Val

pub data Stepped : Type 0 where
  number : Val → ℕ → ℕ → Stepped
  gap : Why → ℕ → ℕ → Stepped
  tail : ℕ → ℕ → Stepped
  finished : ℕ → Stepped
  refuses : Why → Stepped

-- the reading of a group by a rule: its number, or the reason why it has none
abbrev pub valued : {A : Type 0} → (A → Val) → Answer (A × ℕ) → Answer Val
valued f (gives v) = gives (f v.0)
valued f (refused k) = refused k

abbrev pub read_by : Rule → List ℕ → Answer Val
read_by Unsigned g = valued unsigned (reading u64 g)
read_by Signed g = valued signed (reading i64 g)

-- what a step says of a group of n bytes at the place p: its number, or else a gap
abbrev pub says : Answer Val → ℕ → ℕ → Stepped
says (gives v) n p = number v n (p + n)
says (refused k) n p = gap k n (p + n)

abbrev pub says_by : Rule → List ℕ → ℕ → Stepped
says_by rule g p = says (moved p (read_by rule g)) (length g) p

unfoldable pub stepping : Rule → List ℕ → ℕ → Stepped
stepping rule s p =
    pick (ltb block_limit (length s)) (refuses (by 7))
    (pick (ltb (length s) p) (refuses (by 4))
    (pick (leb (length s) p) (finished p)
    (pick (not (is_start_lem s p)) (refuses (by 6))
    (pick (eqb (run (drop p s)) (length (drop p s))) (tail (run (drop p s)) p)
    (says_by rule (take (run (drop p s) + 1) (drop p s)) p)))))

unfoldable pub setting_down : List ℕ → ℕ → Answer ℕ
setting_down s p =
    pick (ltb block_limit (length s)) (refused (by 7))
    (pick (ltb (length s) p) (refused (by 4))
    (pick (eqb p 0) (gives 0)
    (pick (ltb (p - 1 + run (drop (p - 1) s)) (length s)) (gives (p + run (drop (p - 1) s))) (refused (by 8)))))
