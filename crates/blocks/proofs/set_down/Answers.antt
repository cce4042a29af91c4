-- `blocks::set_down` meets its promise: a law of `Rows` for each answer.
use Rattle.std.proofs.Common.{◌-◌, refl, ◌∙◌, arith, rules}
use Rattle.blocks.proofs.HighRun.{run_taken}
use Rattle.blocks.proofs.Rows.{set_too_long, set_past, set_front, set_found, set_none}
use Rattle.blocks.proofs.set_down.Goals as goal

pub returns-then-block-gt-BLOCK_LIMIT : goal.returns-then-block-gt-BLOCK_LIMIT
returns-then-block-gt-BLOCK_LIMIT c = set_too_long _ _ c.if-block-gt-BLOCK_LIMIT.true

pub returns-then-block-at : goal.returns-then-block-at
returns-then-block-at c = set_past _ _ c.if-block-gt-BLOCK_LIMIT.false c.if-block-at.true

pub returns-then-at-lt1 : goal.returns-then-at-lt1
returns-then-at-lt1 c = set_front _ _ c.if-block-gt-BLOCK_LIMIT.false c.if-block-at.false _ refl c.if-at-lt1.true

pub returns-then-last-block : goal.returns-then-last-block
returns-then-last-block c =
    let e = c.high_run.ensures ∙ run_taken c.args.block.now (c.args.place.0 - 1) in
    set_found _ _ (search rules) (search rules) (search rules) _ (omega (arith, c.at.ensures, e)) (rw e at c.if-last-block.true)

pub returns : goal.returns
returns c =
    let e = c.high_run.ensures ∙ run_taken c.args.block.now (c.args.place.0 - 1) in
    set_none _ _ (search rules) (search rules) (search rules) (rw e at c.if-last-block.false)
