-- `small_of_eight` keeps what it promises inside the crate: the high bits of the word tell how many.
use Rattle.std.proofs.Common.{◌∙◌, ap, arith}
use Rattle.lists.specs.InnerWord.{smalls}
use Rattle.lists.proofs.quick.HighBits.{tops_tell, tells_flags, tells_count}
use Rattle.lists.proofs.quick.NumberAtOnce.{word_bytes}
use Rattle.lists.proofs.quick.BytesStored.{few_of_eight}
use Rattle.lists.proofs.quick.wide.small_of_eight.Goals as goal

pub first-requires : goal.first-requires
first-requires c = tells_flags tops_tell _ c.highs.ensures

pub returns : goal.returns
returns c =
    let e = c.first.ensures ∙ tells_count tops_tell _ c.highs.ensures ∙ ap smalls (word_bytes _ (λ i. (c.type_inv.s i).fits) c.word.ensures c.requires) in
    (e, omega (arith, few_of_eight c.args.s.now c.requires))
