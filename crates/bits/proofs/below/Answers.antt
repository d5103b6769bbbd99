-- Both results are 2 ^ n - 1, whose digits are 1 below n and 0 from n on. Assumes nothing.
use mathlib.Core.Path.{ap, sym, ◌∙◌}
use Prim.Native.Nat.{ℕ, ◌-◌, ◌<◌}
use native.Mathlib.Omega.{arith}
use lib.Dec.{ltb}
use Rattle.bits.specs.Bits.{has_bit}
use Rattle.bits.proofs.Laws.{has_ones, one_shl}
use Rattle.bits.proofs.below.Goals as goal

pub returns-then-n-eq-WIDTH : goal.returns-then-n-eq-WIDTH
returns-then-n-eq-WIDTH c j = has_ones 64 j ∙ ap (ltb j) (sym c.if-n-eq-WIDTH.true)

pub returns-else-n-eq-WIDTH : goal.returns-else-n-eq-WIDTH
returns-else-n-eq-WIDTH c j =
    let n = c.args.n in
    let h : n < 64 = omega (arith, c.if-n-eq-WIDTH.false) in
    ap (λ (x : ℕ). has_bit (x - 1) j) (one_shl n h) ∙ has_ones n j
