-- `list::take_in` keeps what it promises: a law of `Pieces` for each way on.
use Rattle.list.proofs.Pieces.{piece_more, piece_ended}
use Rattle.list.proofs.take_in.Goals as goal

pub loop-count-preserved : goal.loop-count-preserved
loop-count-preserved g c =
    let now = c.loop-count in
    let given = c.read-read.ensures in
    let more = piece_more now.there.0 c.in-Continue.count.0 _ _ _ now.input c.read-read.new.buf _ _ c.requires now.auto.input now.invariant.room now.invariant.lost
    c.read-read.result given.bound given.bytes (rw c.in-Continue.is at c.in_ok-count.ensures) in
    record { room = more.0; lost = more.1 }

pub returns-in-Break-clause-bytes : goal.returns-in-Break-clause-bytes
returns-in-Break-clause-bytes g c =
    let now = c.loop-count in
    let given = c.read-read.ensures in
    piece_ended now.there.0 c.in-Break.count.0 _ _ _ now.input c.read-read.new.buf _ _ c.requires now.auto.input now.invariant.room now.invariant.lost
    c.read-read.result c.read-read.auto.buf given.bound given.bytes (rw c.in-Break.is at c.in_ok-count.ensures)
