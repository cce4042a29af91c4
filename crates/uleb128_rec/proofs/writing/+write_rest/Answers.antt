-- `uleb128_rec::write_rest` keeps what it promises inside the crate: each answer is a law of `BytesStored`.
use Rattle.std.proofs.Common.{arith, rules}
use Rattle.uleb128_rec.proofs.BytesStored.{last_stored, front_stored, fits_one, fits_rest, fits_some, fits_count}
use Rattle.uleb128_rec.proofs.writing.+write_rest.Goals as goal

pub bounds-buffer-at : goal.bounds-buffer-at
bounds-buffer-at t c = fits_one _ _ _ _ c.requires

pub returns-then-up-lt1 : goal.returns-then-up-lt1
returns-then-up-lt1 t c = last_stored _ _ _ (search rules) c.take_low_7_bits-low.ensures

pub overflow_sub-left : goal.overflow_sub-left
overflow_sub-left t c = fits_some _ _ _ _ c.requires

pub write_rest-more-requires : goal.write_rest-more-requires
write_rest-more-requires t c = (omega (arith, c.decreases, fits_some _ _ _ _ c.requires), fits_rest _ _ _ _ c.requires (search rules))

-- past the call the buffer is as long as before
pub bounds-buffer-at-2 : goal.bounds-buffer-at-2
bounds-buffer-at-2 t c = let h = fits_one _ _ _ _ c.requires in search rules

pub overflow_add-result : goal.overflow_add-result
overflow_add-result t c = omega (arith, c.ranges.left, fits_count _ _ _ _ c.requires c.if-up-lt1.false c.write_rest-more.ensures)

pub returns : goal.returns
returns t c = front_stored _ _ _ (search rules) c.take_low_7_bits-low.ensures c.set_high_8_bit.ensures c.write_rest-more.ensures
