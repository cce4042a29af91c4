-- What is claimed of damage: demand 3.
--
--   Front, Back           where groups stand, and what a step answers there
--   GapMoves              what a step answers at a gap, whose byte moves with its group
--   FrontRead, BackRead   what a reader gives of the whole block: the readings in each of the two parts are the same list
--   CopyRefused           what holds where a copy whose front is lost is refused
--   FrontLost             what a reader gives of such a copy, or why it is refused
--   OfDamage              all of it
use Rattle.std.specs.Prelude.{ℕ, ◌+◌, ◌≤◌, ◌<◌, ◌≡◌, List, [], ◌++◌, ◌↔◌, length, drop, Result, Ok, Err}
use Rattle.words.specs.Answer.{Answer}
use Rattle.words.specs.declared.Count.{Count}
use Rattle.words.specs.declared.Place.{Place}
use Rattle.words.specs.declared.Refusal.{Refusal}
use Rattle.words.specs.declared.Refusal.TheVariants as W
use Rattle.groups.specs.Group.{run, Bytes, High}
use Rattle.blocks.specs.Block.{Val, says_by, block_limit}
use Rattle.blocks.specs.Promise.{means_step, Steps, SetsDown}
use Rattle.blocks.specs.GroupsAndTail.{GroupAt}
use Rattle.blocks.specs.Places.{ending, from, less, listed}
use Rattle.blocks.specs.Readings.{Block, readings, ReaderGives}
use Rattle.blocks.specs.declared.Rule.{Rule}
use Rattle.blocks.specs.declared.Step.{Step}
use Rattle.blocks.specs.declared.Step.TheVariants as S
use Rattle.blocks.specs.declared.Cursor.{Cursor}

-- Every group that ends before the stretch stands and reads as before, by any rule, and no other group appears there.
abbrev pub Front : Type 0
Front = (a x y b : List ℕ) (p : ℕ) (g : List ℕ) → p + length g ≤ length a →
    (GroupAt (a ++ x ++ b) p g ↔ GroupAt (a ++ y ++ b) p g)
    × ((rule : Rule) (r r' : Result Step Refusal) → Block (a ++ x ++ b) → Block (a ++ y ++ b) → GroupAt (a ++ x ++ b) p g
    → Steps rule (a ++ x ++ b) p r → Steps rule (a ++ y ++ b) p r' → r ≡ r')

-- Every group that begins after the first byte below 128 past the stretch stands and reads as before, by any rule, its place moved only by
-- the change in length, and no other group appears there.
abbrev pub Back : Type 0
Back = (a x y b : List ℕ) (p p' : ℕ) (g : List ℕ) → length (a ++ x) + run b < p → p' + length x ≡ p + length y →
    (GroupAt (a ++ x ++ b) p g ↔ GroupAt (a ++ y ++ b) p' g)
    × ((rule : Rule) (r r' : Result Step Refusal) → Block (a ++ x ++ b) → Block (a ++ y ++ b) → GroupAt (a ++ x ++ b) p g
    → Steps rule (a ++ x ++ b) p r → Steps rule (a ++ y ++ b) p' r' → (means_step r ≡ says_by rule g p) × (means_step r' ≡ says_by rule g p'))

-- Where such a group is a gap, the byte that decided it moves with it, by the change in length and no more; reason and count are as before.
abbrev pub GapMoves : Type 0
GapMoves = (a x y b : List ℕ) (p p' : ℕ) → length (a ++ x) + run b < p → p' + length x ≡ p + length y
    → (rule : Rule) (why : Refusal) (at : Place) (n : Count) (c : Cursor) (r' : Result Step Refusal) → Block (a ++ x ++ b) → Block (a ++ y ++ b)
    → Steps rule (a ++ x ++ b) p (Ok (S.Gap (record { 0 = why; 1 = at }) n c)) → Steps rule (a ++ y ++ b) p' r'
    → (at' : Place) × (c' : Cursor) × (r' ≡ Ok (S.Gap (record { 0 = why; 1 = at' }) n c')) × (at'.0 + length x ≡ at.0 + length y)

-- All that a reader gives of the old block and of the new one: what ends before the stretch is the same list, if the rules chosen there are
-- the same. The byte that decided a gap is counted from its group.
abbrev pub FrontRead : Type 0
FrontRead = (a x y b : List ℕ) (f f' : ℕ → Rule) (l l' : List (ℕ × ℕ × Answer Val))
    → Block (a ++ x ++ b) → Block (a ++ y ++ b) → ((p : ℕ) → p < length a → f p ≡ f' p)
    → ReaderGives f (a ++ x ++ b) 0 l → ReaderGives f' (a ++ y ++ b) 0 l' → ending 0 (length a) l ≡ ending 0 (length a) l'

-- And what begins after the first byte below 128 past the stretch is the same list, with places counted from there.
abbrev pub BackRead : Type 0
BackRead = (a x y b : List ℕ) (f f' : ℕ → Rule) (l l' : List (ℕ × ℕ × Answer Val))
    → Block (a ++ x ++ b) → Block (a ++ y ++ b)
    → ((p p' : ℕ) → length (a ++ x) + run b < p → p' + length x ≡ p + length y → f p ≡ f' p')
    → ReaderGives f (a ++ x ++ b) 0 l → ReaderGives f' (a ++ y ++ b) 0 l'
    → less (length (a ++ x) + run b + 1) (from (length (a ++ x) + run b + 1) l)
    ≡ less (length (a ++ y) + run b + 1) (from (length (a ++ y) + run b + 1) l')

-- A copy without the original's first k bytes is refused only by 7, where it is itself above the limit, by 4, where it has no byte, and by 8, where
-- it has no byte below 128; and where by 4 or 8, no group of the original begins in it.
pub data CopyRefused (original : List ℕ) (k : ℕ) : Refusal → Type 0 where
  above_limit : block_limit < length (drop k original) → CopyRefused original k W.TooLong
  no_byte : drop k original ≡ [] → from k (listed original) ≡ [] → CopyRefused original k W.Place
  all_high : High (drop k original) → from k (listed original) ≡ [] → CopyRefused original k W.NoStart

-- A copy whose front is lost: set down at its place 1, a reader gives exactly the original's groups that begin at k and that start or later,
-- their places less k. Where set-down refuses, there is none to give, unless the copy is above the limit.
abbrev pub FrontLost : Type 0
FrontLost = (f : ℕ → Rule) (original : List ℕ) (k : ℕ) → Bytes original →
    ((c : Cursor) (l : List (ℕ × ℕ × Answer Val)) → SetsDown (drop k original) 1 (Ok c)
    → ReaderGives f (drop k original) c.place.0 l ↔ (l ≡ readings f (less k (from (k + c.place.0) (listed original)))))
    × ((why : Refusal) → SetsDown (drop k original) 1 (Err why) → CopyRefused original k why)

pub record OfDamage : Type 0 where
  pub damage_front : Front
  pub damage_back : Back
  pub damage_back_gap : GapMoves
  pub damage_front_read : FrontRead
  pub damage_back_read : BackRead
  pub front_lost : FrontLost
