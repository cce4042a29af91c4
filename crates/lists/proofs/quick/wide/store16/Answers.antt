-- `store16` keeps what it promises: each byte is stored behind those before it, and the first eight tell how many are small, or the second.
use Rattle.std.proofs.Common.{◌≡◌, take, drop, arith}
use Rattle.std.proofs.lemmas.List.{take_rest}
use Rattle.lists.specs.InnerWord.{smalls}
use Rattle.lists.proofs.quick.BytesStored.{all_stored, some_of_eight, all_of_eight}
use Rattle.lists.proofs.quick.wide.store16.Goals as goal

pub returns-then-c-lt8 : goal.returns-then-c-lt8
returns-then-c-lt8 c =
    let h = rw c.unwrap.ensures at c.as_array.ensures.cases in
    let d : c.small_of_eight-d.result ≡ smalls (take 8 (drop 8 c.args.s.now)) = rw (take_rest c.args.s.now 8) at c.small_of_eight-d.ensures.0 in
    let k : c.loop-k.k ≡ 16 = omega arith in
    some_of_eight _ c.requires.0 c.small_of_eight-c.ensures.0 d (all_stored _ _ c.loop-k.invariant k h.same c.requires.0 c.requires.1) (omega arith)

pub returns : goal.returns
returns c =
    let h = rw c.unwrap.ensures at c.as_array.ensures.cases in
    let d : c.small_of_eight-d.result ≡ smalls (take 8 (drop 8 c.args.s.now)) = rw (take_rest c.args.s.now 8) at c.small_of_eight-d.ensures.0 in
    let k : c.loop-k.k ≡ 16 = omega arith in
    all_of_eight _ c.requires.0 c.small_of_eight-c.ensures.0 d (all_stored _ _ c.loop-k.invariant k h.same c.requires.0 c.requires.1) (omega arith)
