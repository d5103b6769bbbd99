-- The ranges so far have none of the set's letters, so those left decide. Assumes nothing.
use mathlib.Core.Path.{◌≡◌}
use lib.ListN.{drop}
use Rattle.letters.specs.LetterSet.{has_letter}
use Rattle.letters.specs.Order.{order, first_by, first_letter}
use Rattle.letters.proofs.LetterSet.first_of_letters.Given as goal

abbrev pub invariant-loop-range : goal.invariant-loop-range
invariant-loop-range l = first_by (drop l.range-index order) (has_letter l.self) ≡ first_letter (has_letter l.self)
