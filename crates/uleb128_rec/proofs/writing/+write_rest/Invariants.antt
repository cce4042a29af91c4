-- What falls in `write_rest` is the bytes still allowed.
use Rattle.uleb128_rec.proofs.writing.+write_rest.Given as goal

abbrev pub decreases-write_rest : goal.decreases-write_rest
decreases-write_rest l = l.left
