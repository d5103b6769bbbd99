-- What is left after the shift is taken modulo 2 by `& 1`, and that is the definition of membership. Assumes nothing.
use mathlib.Core.Path.{ap}
use Prim.Native.Nat.{ℕ, ◌/◌, ◌^◌}
use lib.Bits.{and_mask}
use lib.Dec.{eqb}
use Rattle.bits.specs.Bits.{has_bit}
use Rattle.bits.proofs.has.Goals as goal

pub returns : goal.returns
unfolding has_bit
returns c = ap (λ (x : ℕ). eqb x 1) (and_mask (c.args.mask / 2 ^ c.args.i) 1)
