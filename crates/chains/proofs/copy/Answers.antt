-- Each turn makes one copy more. Assumes nothing.
use mathlib.Core.Path.{subst}
use Prim.Native.Nat.{ℕ}
use native.Mathlib.Numerals.{add-one}
use native.Mathlib.Omega.{arith}
use Rattle.chains.specs.Chains.{Copied, none, after}
use Rattle.chains.proofs.copy.Goals as goal

pub loop-made-init : goal.loop-made-init
loop-made-init c = none

pub loop-made-preserved : goal.loop-made-preserved
loop-made-preserved c = rw (add-one c.loop-made.made) (after c.loop-made.invariant c.next_rows.ensures)

pub returns : goal.returns
returns c = subst (λ (k : ℕ). Copied c.args.w c.args.doubled c.args.n k c.args.rows.now c.args.more.now c.loop-made.rows c.loop-made.more) (omega arith) c.loop-made.invariant
