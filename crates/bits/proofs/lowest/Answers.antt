-- The number of zeros at the low end is the place of the lowest 1. Assumes nothing.
use Rattle.bits.proofs.Laws.{least_trailing}
use Rattle.bits.proofs.lowest.Goals as goal

pub returns : goal.returns
returns c = least_trailing 64 c.args.mask c.requires c.ranges.mask.fits
