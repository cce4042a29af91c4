-- `at_once` keeps what it promises: what is found in the eight bytes of the word is what is read there.
use Rattle.std.proofs.Common.{arith}
use Rattle.lists.proofs.quick.HighBits.{no_marks, some_mark}
use Rattle.lists.proofs.quick.NumberInWord.{run_one}
use Rattle.lists.proofs.quick.NumberAtOnce.{once_short, once_long}
use Rattle.lists.proofs.quick.wide.at_once.Goals as goal

pub two-requires : goal.two-requires
two-requires c = run_one _ c.word-w.type_inv c.if-w-eq128.true

pub returns-then-w-eq128 : goal.returns-then-w-eq128
returns-then-w-eq128 c =
    once_short _ (λ i. (c.type_inv.s i).fits) c.word-w.ensures c.requires (omega (arith, run_one _ c.word-w.type_inv c.if-w-eq128.true)) c.two.ensures

pub returns-then-m-eq0 : goal.returns-then-m-eq0
returns-then-m-eq0 c =
    once_long _ (λ i. (c.type_inv.s i).fits) c.word-w.ensures c.requires (no_marks _ c.marks-m.ensures (omega arith)) c.longest.ensures

pub short-requires : goal.short-requires
short-requires c = (c.marks-m.ensures, some_mark _ c.marks-m.ensures (omega arith))

pub returns : goal.returns
returns c = once_short _ (λ i. (c.type_inv.s i).fits) c.word-w.ensures c.requires (some_mark _ c.marks-m.ensures (omega arith)) c.short.ensures
