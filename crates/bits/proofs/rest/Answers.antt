-- The law of `m & (m - 1)`, which is no more than m - 1. Assumes nothing.
use Prim.Native.Nat.{◌-◌}
use native.Mathlib.Omega.{arith}
use lib.Bits.{and_le_r}
use Rattle.bits.proofs.Laws.{has_rest}
use Rattle.bits.proofs.rest.Goals as goal

pub returns : goal.returns
returns c = (omega (arith, and_le_r c.args.mask (c.args.mask - 1)), λ t l j. has_rest t c.args.mask j l)
