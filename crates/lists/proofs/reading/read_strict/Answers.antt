-- `lists::read_strict` meets its promise: where it fills the slice, by laws of `StrictAnswers`. What it refuses is found by its count of numbers,
-- with no answer here, so that a wrong test of it fails by what it promises, and not by its name.
use Rattle.std.proofs.Common.{refl, arith}
use Rattle.lists.proofs.StrictAnswers.{slice_fits, slice_filled}
use Rattle.lists.proofs.reading.read_strict.Goals as goal

pub fill-requires : goal.fill-requires
fill-requires c = slice_fits _ (λ i. (c.type_inv.block i).fits) c.in_ok-count.ensures.is (omega arith)

pub returns : goal.returns
returns c = slice_filled _ _ (omega arith) c.in_ok-count.ensures.is (λ i. (c.type_inv.block i).fits) (omega arith) refl c.fill.ensures
