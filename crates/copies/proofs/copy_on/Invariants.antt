-- The entries up to i have their copies. Assumes nothing.
use Rattle.copies.specs.Copies.{Repeats}
use Rattle.copies.proofs.copy_on.Given as goal

abbrev pub invariant-loop-i : goal.invariant-loop-i
invariant-loop-i g l = Repeats (goal.F-post g l.change) l.stretch.from l.i l.stretch.by l.initial.table l.table
