-- `lists::short` keeps what it promises inside the crate: the zeros before the first mark are the run.
use Rattle.std.proofs.Common.{arith, ◌<◌, ◌≡◌, ◌∙◌}
use Rattle.groups.specs.Group.{run}
use Rattle.lists.specs.InnerWord.{spread}
use Rattle.lists.proofs.quick.HighBits.{marks_tell, tells_flags, tells_count}
use Rattle.lists.proofs.quick.NumberInWord.{weight_some, found_short}
use Rattle.lists.proofs.quick.wide.short.Goals as goal

pub first-n-requires : goal.first-n-requires
first-n-requires c = tells_flags marks_tell c.args.w c.requires.0

-- what is counted is the run, and so below 8
run_found : (c : goal.After-first-n) → c.first-n.result ≡ run (spread 8 c.args.w)
run_found c = c.first-n.ensures ∙ tells_count marks_tell c.args.w c.requires.0

few : (c : goal.After-first-n) → c.first-n.result < 8
few c = rw (run_found c) c.requires.1

pub overflow_add-n : goal.overflow_add-n
overflow_add-n c = omega (arith, few c)

pub overflow_mul-weight : goal.overflow_mul-weight
overflow_mul-weight c = omega (arith, few c)

pub overflow_shl-weight : goal.overflow_shl-weight
overflow_shl-weight c = omega (arith, few c)

pub nonzero_rem-result : goal.nonzero_rem-result
nonzero_rem-result c = weight_some _ (omega (arith, c.first-n.ensures, tells_count marks_tell c.args.w c.requires.0))

pub returns : goal.returns
returns c = found_short c.args.w c.requires.1 (c.first-n.ensures ∙ tells_count marks_tell c.args.w c.requires.0) c.joined.ensures
