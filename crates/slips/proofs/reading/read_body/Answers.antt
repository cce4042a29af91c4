-- `slips::read_body` keeps what it promises inside the crate: what is left are the settings that are good.
use Rattle.std.proofs.Common.{◌∙◌, sym, refl, arith}
use Rattle.slips.specs.Good.{torque, angle}
use Rattle.slips.proofs.GoodRange.{nothing_good, lowest_good, highest_good}
use Rattle.slips.proofs.Judged.{slip_good, word_good, range_good, float_bits, float_fits}
use Rattle.slips.proofs.reading.read_body.Goals as goal

pub returns-in-0 : goal.returns-in-0
returns-in-0 c = rw c.in-0.is (slip_good _ (omega arith) (omega arith) _ nothing_good refl tt refl)

pub returns-in_ok-torque-in-1 : goal.returns-in_ok-torque-in-1
returns-in_ok-torque-in-1 c =
    let w = c.in_ok-bits-in-1.ensures in
    let x = c.in_ok-torque-in-1.ensures in
    let g = sym c.good_torque.ensures ∙ x.0 in
    rw c.in-1.is (word_good torque (omega arith) refl w.0 w.1 g (rw (float_bits torque _ g x.1)) (float_fits torque _ g x.1))

pub returns-in_ok-angle-in-2 : goal.returns-in_ok-angle-in-2
returns-in_ok-angle-in-2 c =
    let w = c.in_ok-bits-in-2.ensures in
    let x = c.in_ok-angle-in-2.ensures in
    let g = sym c.good_angle.ensures ∙ x.0 in
    rw c.in-2.is (word_good angle (omega arith) refl w.0 w.1 g (rw (float_bits angle _ g x.1)) (float_fits angle _ g x.1))

pub returns-in_ok-highest-in-3 : goal.returns-in_ok-highest-in-3
returns-in_ok-highest-in-3 c =
    let w = c.in_ok-low-in-3.ensures in
    let u = c.in_ok-high-in-3.ensures in
    let x = c.in_ok-lowest-in-3.ensures in
    let y = c.in_ok-highest-in-3.ensures in
    let g = sym c.good_range-good.ensures ∙ x.0 in
    let a = lowest_good _ _ g in
    let b = highest_good _ _ g in
    rw c.in-3.is
    (range_good _ w.0 w.1 w.2 u.0 u.1 g (rw (float_bits torque _ a x.1, float_bits torque _ b y.1)) (float_fits torque _ a x.1, float_fits torque _ b y.1))
