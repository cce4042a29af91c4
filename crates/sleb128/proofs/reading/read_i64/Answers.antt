-- `sleb128::read_i64` meets its promise: one byte below 128 is read by itself; what the walk tells is a law over the width, and of a group that
-- closes a law of `SignedGroups`.
use borrow.Author.Tests.{leb-false}
use Rattle.std.proofs.Common.{refl, sym, arith, rules}
use Rattle.groups.proofs.Rows.{read_past, due_kept, due_passed}
use Rattle.groups.proofs.OneByte.{read_one}
use Rattle.groups.proofs.FromWalk.{walk_tells, closed_below, open_end, overrun_large, overrun_inside, closed_inside, closed_several}
use Rattle.groups.proofs.SignedWords.{word_back}
use Rattle.sleb128.specs.Signed.{i64}
use Rattle.sleb128.proofs.Widths.{sound}
use Rattle.sleb128.proofs.SignedGroups.{closed_closes, closed_reads}
use Rattle.sleb128.proofs.reading.read_i64.Goals as goal

pub returns-then-not-is_high_8_bit_set : goal.returns-then-not-is_high_8_bit_set
returns-then-not-is_high_8_bit_set c =
    rw (word_back c.alone.result (search rules), c.alone.ensures)
    (due_kept (read_one i64 (omega arith) _ _ refl c.if-at-bytes.true (leb-false _ _ (sym c.if-not-is_high_8_bit_set.ensures))))

pub returns-in-Past : goal.returns-in-Past
returns-in-Past c = due_kept (read_past i64 _ _ (walk_tells _ _ c.walk.ensures c.in-Past.is))

pub returns-in-Open : goal.returns-in-Open
returns-in-Open c = let q = walk_tells _ _ c.walk.ensures c.in-Open.is in due_kept (open_end i64 sound _ _ q q.few)

pub overflow_add-result : goal.overflow_add-result
overflow_add-result c = omega (arith, overrun_inside (walk_tells _ _ c.walk.ensures c.in-Long.is))

pub returns-in-Long : goal.returns-in-Long
returns-in-Long c = let q = walk_tells _ _ c.walk.ensures c.in-Long.is in due_kept (overrun_large i64 sound _ _ q.here q.many)

-- the walk came to a byte below 128, behind others
pub overflow_add-ends : goal.overflow_add-ends
overflow_add-ends c = omega (arith, closed_inside (walk_tells _ _ c.walk.ensures c.in-Closed.is))

pub overflow_sub-up : goal.overflow_sub-up
overflow_sub-up c = omega (arith, closed_below (walk_tells _ _ c.walk.ensures c.in-Closed.is))

pub said-low-requires : goal.said-low-requires
said-low-requires c = omega (arith, closed_below (walk_tells _ _ c.walk.ensures c.in-Closed.is))

pub said-bits-requires : goal.said-bits-requires
said-bits-requires c = omega (arith, (walk_tells _ _ c.walk.ensures c.in-Closed.is).low)

pub closed-requires : goal.closed-requires
closed-requires c =
    let q = walk_tells _ _ c.walk.ensures c.in-Closed.is in
    let more = closed_several q (search rules) in
    rw (c.said-low.ensures, c.said-bits.ensures) (closed_closes q more)

pub returns-in-Closed : goal.returns-in-Closed
returns-in-Closed c =
    let q = walk_tells _ _ c.walk.ensures c.in-Closed.is in
    let more = closed_several q (search rules) in
    due_passed (closed_reads q more) (rw (c.said-low.ensures, c.said-bits.ensures) at c.closed.ensures)
