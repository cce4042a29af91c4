-- `lists::fill_halves` keeps what it promises inside the crate: the loop holds `Filling`, and each part of a turn is a law of `HalvesLoop`.
use borrow.Rule.Slice.PartMut.{mid_len, same_len_mid}
use Rattle.std.proofs.Common.{arith, rules, ◌-◌, ◌∙◌}
use Rattle.lists.proofs.quick.Steps.{rest_long, step_small}
use Rattle.lists.proofs.quick.HalvesLoop.{filling_begins, first_end, second_end, filling_ends, accepts_first, accepts_second, first_inside, second_inside, turn_stored, ready_first, ready_second, turn_ends}
use Rattle.lists.proofs.quick.halves.fill_halves.Goals as goal

pub loop-n-init : goal.loop-n-init
loop-n-init c = filling_begins _ c.requires

pub at_once-v-requires : goal.at_once-v-requires
at_once-v-requires c =
    accepts_first c.loop-n.invariant c.saturating_sub-most.ensures c.saturating_sub-most2.ensures (c.loop-n-test.true, c.if-n2-most2.true)

pub at_once-v2-requires : goal.at_once-v2-requires
at_once-v2-requires c =
    accepts_second c.loop-n.invariant c.saturating_sub-most.ensures c.saturating_sub-most2.ensures (c.loop-n-test.true, c.if-n2-most2.true)

pub overflow_add-at : goal.overflow_add-at
overflow_add-at c = omega (arith, first_inside c.loop-n.invariant c.saturating_sub-most.ensures c.loop-n-test.true c.at_once-v.ensures)

pub overflow_add-at2 : goal.overflow_add-at2
overflow_add-at2 c = omega (arith, second_inside c.loop-n.invariant c.saturating_sub-most2.ensures c.if-n2-most2.true c.at_once-v2.ensures)

pub slice_bounds-small-count : goal.slice_bounds-small-count
slice_bounds-small-count c = omega (arith, first_inside c.loop-n.invariant c.saturating_sub-most.ensures c.loop-n-test.true c.at_once-v.ensures)

pub slice_bounds-small-start : goal.slice_bounds-small-start
slice_bounds-small-start c = let h = first_inside c.loop-n.invariant c.saturating_sub-most.ensures c.loop-n-test.true c.at_once-v.ensures in search rules

pub overflow_add-at-in-loop-n : goal.overflow_add-at-in-loop-n
overflow_add-at-in-loop-n c = omega (arith, c.small-k.ensures.few, first_inside c.loop-n.invariant c.saturating_sub-most.ensures c.loop-n-test.true c.at_once-v.ensures)

pub slice_bounds-small-count-in-loop-n-2 : goal.slice_bounds-small-count-in-loop-n-2
slice_bounds-small-count-in-loop-n-2 c = omega (arith, second_inside c.loop-n.invariant c.saturating_sub-most2.ensures c.if-n2-most2.true c.at_once-v2.ensures)

pub slice_bounds-small-start-in-loop-n-2 : goal.slice_bounds-small-start-in-loop-n-2
slice_bounds-small-start-in-loop-n-2 c = let h = second_inside c.loop-n.invariant c.saturating_sub-most2.ensures c.if-n2-most2.true c.at_once-v2.ensures in search rules

pub overflow_add-at2-in-loop-n : goal.overflow_add-at2-in-loop-n
overflow_add-at2-in-loop-n c = omega (arith, c.small-k2.ensures.few, second_inside c.loop-n.invariant c.saturating_sub-most2.ensures c.if-n2-most2.true c.at_once-v2.ensures)

pub small-k-requires : goal.small-k-requires
small-k-requires c =
    let t =
    turn_stored c.loop-n.invariant c.saturating_sub-most.ensures c.saturating_sub-most2.ensures (c.loop-n-test.true, c.if-n2-most2.true)
    c.at_once-v.ensures c.at_once-v2.ensures in
    let r = ready_first t in (rest_long _ _ 16 r.0, rest_long _ _ 16 r.1)

pub small-k2-requires : goal.small-k2-requires
small-k2-requires c =
    let t =
    turn_stored c.loop-n.invariant c.saturating_sub-most.ensures c.saturating_sub-most2.ensures (c.loop-n-test.true, c.if-n2-most2.true)
    c.at_once-v.ensures c.at_once-v2.ensures in
    let a = step_small c.args.s.now _ _ _ (ready_first t).1 c.small-k.ensures.stored in
    let r = ready_second t a in (rest_long _ _ 16 r.0, rest_long _ _ 16 r.1)

pub loop-n-preserved : goal.loop-n-preserved
loop-n-preserved c =
    let t =
    turn_stored c.loop-n.invariant c.saturating_sub-most.ensures c.saturating_sub-most2.ensures (c.loop-n-test.true, c.if-n2-most2.true)
    c.at_once-v.ensures c.at_once-v2.ensures in
    let a = step_small c.args.s.now _ _ _ (ready_first t).1 c.small-k.ensures.stored in
    let b = step_small c.args.s.now _ _ _ (ready_second t a).1 c.small-k2.ensures.stored in
    turn_ends t a b

pub returns : goal.returns
returns c =
    let f = c.loop-n.invariant in
    let e = same_len_mid c.loop-n.n (c.args.half - c.loop-n.n) c.loop-n.numbers c.rest.new.numbers c.rest.auto.numbers in
    filling_ends f (c.rest.auto.numbers ∙ mid_len _ _ c.loop-n.numbers (first_end f)) (c.rest-2.auto.numbers ∙ mid_len _ _ _ (omega (arith, second_end f, e)))
    c.rest.ensures c.rest-2.ensures
