-- `groups::store` meets its promise: as many groups of seven bits as the spelling is long are the spelling, by the number's kind.
use Rattle.std.proofs.Common.{arith, rules}
use Rattle.groups.proofs.Spelling.{spelled, spelled_laid, takes_some}
use Rattle.groups.proofs.SignedWords.{below_sign, laid_back}
use Rattle.groups.proofs.writing.store.Goals as goal

pub lay-requires : goal.lay-requires
lay-requires c = takes_some _ _ _ (omega arith) c.length_unsigned.ensures

pub lay-requires-in-Signed : goal.lay-requires-in-Signed
lay-requires-in-Signed c = takes_some _ _ _ (omega arith) c.length_signed.ensures

pub returns-in-Unsigned : goal.returns-in-Unsigned
returns-in-Unsigned c =
    rw c.in-Unsigned.is (spelled_laid (omega arith) (spelled _ 128 (omega arith) _) c.length_unsigned.ensures.is c.lay.ensures)

pub returns-in-Signed : goal.returns-in-Signed
returns-in-Signed c =
    rw c.in-Signed.is
    (laid_back c.in-Signed.v (search rules) (below_sign _) c.magnitude.ensures c.length_signed.ensures c.lay-in-Signed.ensures)
