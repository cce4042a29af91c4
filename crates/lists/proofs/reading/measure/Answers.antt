-- `lists::measure` keeps what it promises inside the crate: a clean block's count is a law of `NumbersLeft`, and the plain pass tells the rest.
use Rattle.lists.proofs.NumbersLeft.{clean_count}
use Rattle.lists.proofs.reading.measure.Goals as goal

pub returns-then-clean : goal.returns-then-clean
returns-then-clean c = record {
  is = clean_count _ (λ i. (c.type_inv.block i).fits) (c.clean.ensures c.if-clean.true) c.low_bytes.ensures;
}
