-- `lists::shared` keeps what it promises inside the crate: a law of `Marks`.
use Rattle.lists.proofs.quick.Marks.{nine_high}
use Rattle.lists.proofs.quick.sound.shared.Goals as goal

pub returns : goal.returns
returns c = nine_high c.args.s.now c.args.k (λ i. (c.type_inv.s i).fits)
