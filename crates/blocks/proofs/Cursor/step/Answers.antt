-- `blocks::Cursor::step` meets its promise: a law of `Rows` for each answer before a start, and from there what `long` or one byte says.
use borrow.Author.Tests.{leb-false}
use Rattle.std.proofs.Common.{refl, sym, ◌∙◌, rules}
use Rattle.blocks.proofs.GroupReading.{reads_one}
use Rattle.blocks.proofs.Rows.{step_too_long, step_past, step_finished, step_not_a_start, step_standing}
use Rattle.blocks.proofs.Cursor.step.Goals as goal

pub returns-then-block-gt-BLOCK_LIMIT : goal.returns-then-block-gt-BLOCK_LIMIT
returns-then-block-gt-BLOCK_LIMIT c = step_too_long _ _ _ c.if-block-gt-BLOCK_LIMIT.true

pub returns-then-block-at : goal.returns-then-block-at
returns-then-block-at c = step_past _ _ _ c.if-block-gt-BLOCK_LIMIT.false c.if-block-at.true

pub returns-then-block-at-2 : goal.returns-then-block-at-2
returns-then-block-at-2 c = step_finished _ _ _ c.if-block-gt-BLOCK_LIMIT.false _ refl c.if-block-at.false c.if-block-at-2.true

pub returns-then-not-is_start : goal.returns-then-not-is_start
returns-then-not-is_start c =
    step_not_a_start _ _ _ (search rules) (search rules) (sym c.is_start.ensures ∙ c.if-not-is_start.true)

-- past the test for a start
pub returns-then-not-is_high_8_bit_set : goal.returns-then-not-is_high_8_bit_set
returns-then-not-is_high_8_bit_set c =
    step_standing _ _ _ (search rules) (search rules) (sym c.is_start.ensures ∙ c.if-not-is_start.false) refl
    (rw c.at.ensures (reads_one _ _ _ (search rules) (leb-false _ _ (sym c.if-not-is_high_8_bit_set.ensures)) c.alone.ensures))

pub returns : goal.returns
returns c = step_standing _ _ _ (search rules) (search rules) (sym c.is_start.ensures ∙ c.if-not-is_start.false) refl c.long.ensures
