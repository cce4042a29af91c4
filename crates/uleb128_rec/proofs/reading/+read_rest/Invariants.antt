-- What falls in `read_rest` is the bytes still allowed.
use Rattle.uleb128_rec.proofs.reading.+read_rest.Given as goal

abbrev pub decreases-read_rest : goal.decreases-read_rest
decreases-read_rest l = l.left
