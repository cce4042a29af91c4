-- `lists::lay` keeps what it promises inside the crate: each turn and the end are laws of `LayLoop`.
use Rattle.std.proofs.Common.{arith}
use Rattle.lists.proofs.LayLoop.{one_of_list, all_of_list, room_next}
use Rattle.lists.proofs.writing.lay.Goals as goal

pub put-to-requires : goal.put-to-requires
put-to-requires c = room_next _ _ c.loop-v.invariant c.requires c.loop-v-test.true

pub loop-v-preserved : goal.loop-v-preserved
loop-v-preserved c = one_of_list _ _ c.loop-v.invariant c.loop-v-test.true c.put-to.ensures

pub returns : goal.returns
returns c = all_of_list _ _ c.loop-v.invariant c.requires (omega arith) c.loop-v-test.false
