-- All copies are made, and each turn joins one more to the chain. Assumes nothing.
use Rattle.chains.proofs.Growing.{Sofar}
use Rattle.chains.proofs.chain.Given as goal

abbrev pub invariant-loop-i : goal.invariant-loop-i
invariant-loop-i l = Sofar l.w l.copies l.interval.lower l.initial.rows l.more l.initial.all l.rows l.all l.one l.ends l.i
