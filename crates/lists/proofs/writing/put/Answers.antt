-- `lists::put` keeps what it promises inside the crate: each turn and each way out is a law of `LayLoop`.
use Rattle.std.proofs.Common.{arith, rules, add_assoc, ◌≡◌}
use Rattle.words.proofs.LaysInParts.{rest_fits}
use Rattle.uleb128.proofs.Forms.{form_some}
use Rattle.lists.proofs.LayLoop.{byte_put, last_put, ninth_put}
use Rattle.lists.proofs.writing.put.Goals as goal

-- the next byte goes to a place of the buffer
pub bounds-buffer-to : goal.bounds-buffer-to
bounds-buffer-to c = omega (arith, rest_fits c.loop-i.invariant c.requires, form_some c.loop-i.rest)

pub bounds-buffer-to-in-loop-i : goal.bounds-buffer-to-in-loop-i
bounds-buffer-to-in-loop-i c = omega (arith, rest_fits c.loop-i.invariant c.requires, form_some c.loop-i.rest)

pub bounds-buffer-last : goal.bounds-buffer-last
bounds-buffer-last c = omega (arith, rest_fits c.loop-i.invariant c.requires, form_some c.loop-i.rest)

pub returns-then-rest-lt-ONE_BYTE : goal.returns-then-rest-lt-ONE_BYTE
returns-then-rest-lt-ONE_BYTE c = last_put _ _ c.loop-i.invariant c.if-rest-lt-ONE_BYTE.true c.take_low_7_bits.ensures

pub loop-i-preserved : goal.loop-i-preserved
loop-i-preserved c =
    rw (← (add_assoc c.args.at c.loop-i.i 1))
    (byte_put _ _ c.loop-i.invariant c.if-rest-lt-ONE_BYTE.false c.take_low_7_bits-in-loop-i.ensures c.set_high_8_bit.ensures)

pub returns : goal.returns
returns c =
    let e : c.loop-i.i ≡ 9 = omega arith in
    last_put _ _ (rw e at c.loop-i.invariant) (ninth_put _ _ c.loop-i.invariant (search rules) (omega arith)) c.take_low_7_bits-2.ensures
