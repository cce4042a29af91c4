-- `sleb128::closed` keeps what it promises inside the crate: a law of `ClosingRows` for each answer.
use Rattle.std.proofs.Common.{sym, ◌∙◌, arith, rules}
use Rattle.groups.proofs.Rows.{due_kept}
use Rattle.groups.proofs.SignedWords.{word_back}
use Rattle.sleb128.proofs.ClosingRows.{closing_large, closing_many, closing_number, closing_fits}
use Rattle.sleb128.proofs.reading.closed.Goals as goal

pub returns-then-too_large : goal.returns-then-too_large
returns-then-too_large c = due_kept (closing_large _ _ _ _ _ _ (sym c.too_large.ensures ∙ c.if-too_large.true))

-- it isn't too large
pub overflow_mul-m : goal.overflow_mul-m
overflow_mul-m c = omega (arith, closing_fits _ _ (sym c.too_large.ensures ∙ c.if-too_large.false) c.requires)

pub overflow_add-m : goal.overflow_add-m
overflow_add-m c = omega (arith, closing_fits _ _ (sym c.too_large.ensures ∙ c.if-too_large.false) c.requires)

pub overflow_mul-twice : goal.overflow_mul-twice
overflow_mul-twice c = omega (arith, closing_fits _ _ (sym c.too_large.ensures ∙ c.if-too_large.false) c.requires)

pub returns-then-twice-weight : goal.returns-then-twice-weight
returns-then-twice-weight c =
    due_kept (closing_many _ _ _ _ _ _ (sym c.too_large.ensures ∙ c.if-too_large.false) c.if-twice-weight.true)

pub signed-requires : goal.signed-requires
signed-requires c = closing_fits _ _ (sym c.too_large.ensures ∙ c.if-too_large.false) c.requires

pub returns : goal.returns
returns c =
    rw (word_back c.signed.result (search rules), c.signed.ensures)
    (due_kept (closing_number _ _ _ _ _ _ (sym c.too_large.ensures ∙ c.if-too_large.false) c.if-twice-weight.false))
