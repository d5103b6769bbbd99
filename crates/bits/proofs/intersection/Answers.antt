-- The law of `&`. Assumes nothing.
use Rattle.bits.proofs.Laws.{has_and}
use Rattle.bits.proofs.intersection.Goals as goal

pub returns : goal.returns
returns c j = has_and c.args.a c.args.b j
