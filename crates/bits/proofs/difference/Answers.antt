-- The law of `a & !b`. Assumes nothing.
use Rattle.bits.proofs.Laws.{has_minus}
use Rattle.bits.proofs.difference.Goals as goal

pub returns : goal.returns
returns c j = has_minus c.args.a c.args.b j c.ranges.a.fits c.ranges.b.fits
