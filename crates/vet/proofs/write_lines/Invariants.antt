-- The run stands as one from `Run::new` on does, and what it has written is the output's beginning. The measure is how many bytes of
-- the input are left. Assumes nothing.
use mathlib.Core.Path.{◌≡◌}
use Prim.Native.Nat.{◌-◌}
use lib.ListN.{length}
use Rattle.vet.proofs.Writing.{Writes}
use Rattle.vet.proofs.write_lines.Given as goal

abbrev pub invariant-loop-len : goal.invariant-loop-len
invariant-loop-len g l = (length l.line ≡ 32) × Writes l.input l.run (g.W.Write.contents l.initial.output) (g.W.Write.contents l.output)

abbrev pub decreases-loop-len : goal.decreases-loop-len
decreases-loop-len g l = length l.input - l.run.from
