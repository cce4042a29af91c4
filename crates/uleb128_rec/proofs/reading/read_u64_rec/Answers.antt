-- `uleb128_rec::read_u64_rec` meets its promise: a start past the end, and else what `read_rest` reads of at most ten bytes.
use Rattle.std.proofs.Common.{rules}
use Rattle.groups.proofs.Rows.{read_past, due_kept}
use Rattle.uleb128.specs.Unsigned.{u64}
use Rattle.uleb128_rec.proofs.reading.read_u64_rec.Goals as goal

pub returns-then-bytes-at : goal.returns-then-bytes-at
returns-then-bytes-at c = due_kept (read_past u64 _ _ (search rules))
