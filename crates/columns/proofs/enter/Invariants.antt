-- What is still to be entered is what is left of the set. Assumes nothing.
use Rattle.columns.proofs.Columns.{Entering}
use Rattle.columns.proofs.enter.Given as goal

abbrev pub invariant-loop-x : goal.invariant-loop-x
invariant-loop-x g l =
    (goal.iterator-loop-x g).can_next l.x-iterator × (goal.iterator-loop-x g).is_finite l.x-iterator
    × Entering (g.S.NumberSet.has l.fn.members) (g.S.NumberSet.has l.x-iterator.left) l.j l.initial.table l.table
