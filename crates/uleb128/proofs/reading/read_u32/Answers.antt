-- `uleb128::read_u32` meets its promise: a reading at the width of 32 bits, whose numbers fit a `u32`.
use Rattle.std.proofs.Common.{arith}
use Rattle.uleb128.proofs.ReadsForms.{case_read, read_begins}
use Rattle.uleb128.proofs.reading.read_u32.Goals as goal

pub overflow_cast-result : goal.overflow_cast-result
overflow_cast-result c =
    record { fits = (read_begins _ _ (omega arith) (omega arith) _ _ (λ i. (c.type_inv.bytes i).fits) (case_read c.parse.ensures.is c.in_ok-v.was)).of_width }
