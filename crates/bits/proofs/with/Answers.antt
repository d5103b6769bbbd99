-- The law of `m | (1 << i)`. Assumes nothing.
use Rattle.bits.proofs.Laws.{has_with}
use Rattle.bits.proofs.with.Goals as goal

pub returns : goal.returns
returns c j = has_with c.args.mask c.args.i j c.requires
