-- Each turn is one step back, and what is behind the node that it comes to is behind the whole. Assumes nothing.
use Rattle.texts.proofs.Tracing.{Counted}
use Rattle.texts.proofs.steps_to.Given as goal

abbrev pub invariant-loop-j : goal.invariant-loop-j
invariant-loop-j l = Counted l.scratch.numbers.now l.i l.j l.n

abbrev pub decreases-loop-j : goal.decreases-loop-j
decreases-loop-j l = l.j
