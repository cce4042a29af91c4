-- `groups::walk` meets its promise: each way out of its loop is a law of `WalkLoop`.
use borrow.Author.Tests.{leb-true, leb-false}
use Rattle.std.proofs.Common.{◌≡◌, ◌∙◌, ℕ, ap, sym, arith}
use Rattle.std.proofs.lemmas.List.{length-take}
use Rattle.groups.specs.declared.Walked.TheVariants.{Open}
use Rattle.groups.proofs.WalkLoop.{walk_past, none_walked, byte_taken, walk_closes, walk_overruns, one_walked, walk_runs_dry, part_fits, weight_fits, walks_from}
use Rattle.groups.proofs.reading.walk.Goals as goal

pub returns-then-bytes-start : goal.returns-then-bytes-start
returns-then-bytes-start c = walk_past c.if-bytes-start.true

pub loop-high-init : goal.loop-high-init
loop-high-init c = none_walked _

-- within the loop, a byte stands at the place and eight at most were walked
pub returns-then-not-is_high_8_bit_set : goal.returns-then-not-is_high_8_bit_set
returns-then-not-is_high_8_bit_set c =
    walks_from (omega arith)
    (walk_closes c.loop-high.invariant (byte_taken _ _ c.loop-high-test.true) (omega (arith, length-take {A = ℕ})) (omega (arith, length-take {A = ℕ}))
    (leb-false _ _ (sym c.if-not-is_high_8_bit_set.ensures)))

pub overflow_add-sum : goal.overflow_add-sum
overflow_add-sum c = omega (arith, part_fits c.loop-high.invariant c.take_low_7_bits.result, length-take {A = ℕ})

pub overflow_mul-weight : goal.overflow_mul-weight
overflow_mul-weight c = omega (arith, weight_fits c.loop-high.invariant, length-take {A = ℕ})

pub loop-high-preserved : goal.loop-high-preserved
loop-high-preserved c =
    rw c.take_low_7_bits.ensures
    (one_walked c.loop-high.invariant (byte_taken _ _ c.loop-high-test.true) (omega (arith, length-take {A = ℕ}))
    (leb-true _ _ (sym c.if-not-is_high_8_bit_set.ensures)))

-- behind the loop, as many were walked as it was given: all, if fewer than ten, else nine
pub returns-in-None : goal.returns-in-None
returns-in-None c =
    let all : c.min-most.result ≡ c.loop-high.high = omega (arith, length-take {A = ℕ}) in
    walks_from (omega arith)
    (ap (λ (n : ℕ). Open (record { 0 = n })) all ∙ walk_runs_dry c.loop-high.invariant (omega (arith, c.in-None.ensures.lookup)) (omega arith))

pub returns-in-Some : goal.returns-in-Some
returns-in-Some c =
    let all : c.min-most.result ≡ c.loop-high.high = omega (arith, length-take {A = ℕ}) in
    walks_from (omega arith)
    (walk_overruns c.loop-high.invariant (rw all at (c.in-Some.ensures.lookup.3.1 0)) (omega (arith, c.in-Some.ensures.lookup))
    (omega (arith, c.in-Some.ensures.lookup)) (leb-true _ _ (sym c.if-is_high_8_bit_set.ensures)))

pub returns-in-Some-2 : goal.returns-in-Some-2
returns-in-Some-2 c =
    let all : c.min-most.result ≡ c.loop-high.high = omega (arith, length-take {A = ℕ}) in
    walks_from (omega arith)
    (rw all (walk_closes c.loop-high.invariant (rw all at (c.in-Some.ensures.lookup.3.1 0)) (omega (arith, c.in-Some.ensures.lookup))
    (omega arith) (leb-false _ _ (sym c.if-is_high_8_bit_set.ensures))))
