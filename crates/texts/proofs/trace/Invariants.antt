-- Each turn writes the letter of the node at hand before those written, and goes one step back. Assumes nothing.
use Rattle.texts.proofs.Tracing.{Writing}
use Rattle.texts.proofs.trace.Given as goal

abbrev pub invariant-loop-at : goal.invariant-loop-at
invariant-loop-at l = Writing l.sets l.scratch.numbers.now l.initial.evidence l.evidence l.i l.base l.n l.at l.k

abbrev pub decreases-loop-at : goal.decreases-loop-at
decreases-loop-at l = l.at
