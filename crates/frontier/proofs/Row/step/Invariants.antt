-- The new row is filled for the positions that are not left; what the last one of them got is known. Assumes nothing.
use Rattle.frontier.specs.Rows.{Known}
use Rattle.frontier.proofs.Fills.{Filling}
use Rattle.frontier.proofs.Row.step.Given as goal

abbrev pub invariant-loop-i : goal.invariant-loop-i
invariant-loop-i l =
    goal.iterator-loop-i.can_next l.i-iterator × goal.iterator-loop-i.is_finite l.i-iterator
    × Filling l.links l.fn.holds l.self l.next.counts l.next.most l.i-iterator.left l.active × Known l.links l.self l.arrived.members l.arrived.sum
