-- Each turn makes one copy more. Assumes nothing.
use Rattle.chains.specs.Chains.{Copied}
use Rattle.chains.proofs.copy.Given as goal

abbrev pub invariant-loop-made : goal.invariant-loop-made
invariant-loop-made l = Copied l.w l.doubled l.n l.made l.initial.rows l.initial.more l.rows l.more
