-- The shift multiplies by a power of 2, and what is past 64 digits is cut off. Assumes nothing.
use Rattle.bits.proofs.Laws.{has_shl}
use Rattle.bits.proofs.moved.Goals as goal

pub returns : goal.returns
returns c j = has_shl c.args.mask c.args.by j
