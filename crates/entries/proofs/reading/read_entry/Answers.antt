-- `entries::read_entry` meets its promise: a law of `EntryReturns` for each answer. The one for a block too long is named on the function.
use Rattle.std.proofs.Common.{rules, ◌+◌, arith, length-drop}
use Rattle.entries.proofs.NextMarks.{mark_inside, first_or_end, told_yes, told_no}
use Rattle.entries.proofs.EntryReturns.{heard_numbers, heard_fault, place_past, none_ahead, entry_good, entry_faulty, entry_longer}
use Rattle.entries.proofs.reading.read_entry.Goals as goal
use Rattle.entries.proofs.reading.read_entry.Goals.{in-Some-hear+else-ends, in_default-hear}

pub returns-then-block-from : goal.returns-then-block-from
returns-then-block-from c = place_past (search rules) c.if-block-from.true

pub returns-in_default : goal.returns-in_default
returns-in_default c = none_ahead (search rules) (search rules) c.in_default.ensures

pub slice_bounds-hear-count : goal.slice_bounds-hear-count
slice_bounds-hear-count c = mark_inside c.in-Some.ensures.is.2

pub slice_bounds-hear-start : goal.slice_bounds-hear-start
slice_bounds-hear-start c = mark_inside c.in-Some.ensures.is.2

pub ends-requires : goal.ends-requires
ends-requires c =
    let h = heard_numbers c.args.block.now (c.in-Some.at + 2) c.in-Some-hear.is c.hear.ensures in
    omega (arith, h.0, mark_inside c.in-Some.ensures.is.2, length-drop (c.in-Some.at + 2) c.args.block.now)

pub returns-then-ends : goal.returns-then-ends
returns-then-ends c =
    let h = heard_numbers c.args.block.now (c.in-Some.at + 2) c.in-Some-hear.is c.hear.ensures in
    entry_good (search rules) c.in-Some.ensures h.0 h.1 (told_yes c.ends.ensures c.if-ends.true)

pub returns : goal.returns
returns c =
    let b = first_or_end (mark_inside c.in-Some.ensures.is.2) c.next_mark-2.ensures c.unwrap_or-end.ensures in
    elim c.match-hear.branch [
      | in-Some-hear+else-ends w ↦
          let h = heard_numbers c.args.block.now (c.in-Some.at + 2) w.in-Some-hear.is c.hear.ensures in
          entry_longer (search rules) c.in-Some.ensures b h.0 h.1 (told_no w.ends.ensures w.if-ends.false)
      | in_default-hear w ↦ entry_faulty (search rules) c.in-Some.ensures b (heard_fault c.args.block.now (c.in-Some.at + 2) w.in_default-hear.is c.hear.ensures)
    ]
