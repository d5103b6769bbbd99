-- `1 << i` is 2 ^ i, whose one digit is at i. Assumes nothing.
use Rattle.bits.proofs.Laws.{has_pow, one_shl}
use Rattle.bits.proofs.only.Goals as goal

pub returns : goal.returns
returns c j = rw (one_shl c.args.i c.requires) (has_pow c.args.i j)
