-- The items read so far begin those that the rules read. The measure is what is left of the text. Assumes nothing.
use Prim.Native.Nat.{ℕ, ◌<◌}
use mathlib.Core.List.{[]}
use lib.ListN.{length}
use Rattle.pattern.specs.Grammar.{items_from}
use Rattle.classes.proofs.Members.{Sofar}
use Rattle.classes.proofs.items.Given as goal

abbrev pub invariant-loop-item : goal.invariant-loop-item
invariant-loop-item l = (f : ℕ) → length l.text < f → Sofar (items_from f [] l.text) l.text l.left l.set l.reversed

abbrev pub decreases-loop-item : goal.decreases-loop-item
decreases-loop-item l = length l.left
