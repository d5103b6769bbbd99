-- The law of `|`. Assumes nothing.
use Rattle.bits.proofs.Laws.{has_or}
use Rattle.bits.proofs.union.Goals as goal

pub returns : goal.returns
returns c j = has_or c.args.a c.args.b j
