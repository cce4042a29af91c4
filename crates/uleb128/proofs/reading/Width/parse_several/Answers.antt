-- `uleb128::Width::parse_several` keeps what it promises inside the crate: at each answer, what the walk tells and the tests on the
-- way are a law of `Widths`.
use Rattle.std.proofs.Common.{arith}
use Rattle.groups.proofs.FromWalk.{walk_tells, open_inside, overrun_inside, closed_inside, closed_several}
use Rattle.uleb128.proofs.Widths.{says_past, says_end, says_overrun, large_there, says_large, not_large, says_many, says_number, number_fits}
use Rattle.uleb128.proofs.reading.Width.parse_several.Goals as goal

pub returns-in-Past : goal.returns-in-Past
returns-in-Past c = says_past _ _ c.args.self.wide _ _ (walk_tells _ _ c.walk.ensures c.in-Past.is)

-- the bytes end within the walk
pub returns-in-Open : goal.returns-in-Open
returns-in-Open c = says_end _ _ c.args.self.wide _ _ (walk_tells _ _ c.walk.ensures c.in-Open.is) c.if-high-self.true

pub overflow-requires : goal.overflow-requires
overflow-requires c = omega (arith, open_inside (walk_tells _ _ c.walk.ensures c.in-Open.is), c.if-high-self.false)

pub returns-in-Open-2 : goal.returns-in-Open-2
returns-in-Open-2 c =
    let q = walk_tells _ _ c.walk.ensures c.in-Open.is in
    rw c.overflow.ensures (says_overrun _ _ c.args.self.wide _ _ q.here (omega (arith, q.many)))

-- no byte below 128 came within ten
pub overflow-requires-in-Long : goal.overflow-requires-in-Long
overflow-requires-in-Long c = omega (arith, overrun_inside (walk_tells _ _ c.walk.ensures c.in-Long.is), c.args.self.wide)

pub returns-in-Long : goal.returns-in-Long
returns-in-Long c =
    let q = walk_tells _ _ c.walk.ensures c.in-Long.is in
    rw c.overflow-in-Long.ensures (says_overrun _ _ c.args.self.wide _ _ q.here (omega (arith, q.many)))

-- the walk came to a byte below 128
pub overflow_add-high : goal.overflow_add-high
overflow_add-high c = omega (arith, (walk_tells _ _ c.walk.ensures c.in-Closed.is).few)

pub overflow-requires-then-too_large : goal.overflow-requires-then-too_large
overflow-requires-then-too_large c =
    let q = walk_tells _ _ c.walk.ensures c.in-Closed.is in
    omega (arith, closed_inside q, large_there _ _ c.args.self.wide _ _ q c.too_large.ensures c.if-too_large.true)

pub returns-then-too_large : goal.returns-then-too_large
returns-then-too_large c =
    rw c.overflow-then-too_large.ensures
    (says_large _ _ c.args.self.wide _ _ (walk_tells _ _ c.walk.ensures c.in-Closed.is) c.too_large.ensures c.if-too_large.true)

-- it isn't too large
pub overflow_add-result : goal.overflow_add-result
overflow_add-result c = omega (arith, closed_inside (walk_tells _ _ c.walk.ensures c.in-Closed.is))

pub returns-then-last-lt1 : goal.returns-then-last-lt1
returns-then-last-lt1 c =
    let q = walk_tells _ _ c.walk.ensures c.in-Closed.is in
    let within = not_large _ _ c.args.self.wide _ _ q c.too_large.ensures c.if-too_large.false in
    says_many _ _ c.args.self.wide _ _ q within.0 (closed_several q c.requires) c.if-last-lt1.true

pub number-requires : goal.number-requires
number-requires c =
    let q = walk_tells _ _ c.walk.ensures c.in-Closed.is in
    let within = not_large _ _ c.args.self.wide _ _ q c.too_large.ensures c.if-too_large.false in
    (number_fits _ _ c.args.self.wide _ _ q within.0 within.1, q.few)

pub returns-else-last-lt1 : goal.returns-else-last-lt1
returns-else-last-lt1 c =
    let q = walk_tells _ _ c.walk.ensures c.in-Closed.is in
    let within = not_large _ _ c.args.self.wide _ _ q c.too_large.ensures c.if-too_large.false in
    rw c.number.ensures (says_number _ _ c.args.self.wide _ _ q within.0 within.1 (λ h. omega arith))
