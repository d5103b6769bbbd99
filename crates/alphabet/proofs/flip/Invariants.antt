-- The loop's invariant: the entries so far are flipped. Assumes nothing.
use lib.Dec.{ltb}
use Rattle.alphabet.specs.Flipped.{Flipped}
use Rattle.alphabet.proofs.flip.Given as goal

abbrev pub invariant-loop-entry : goal.invariant-loop-entry
invariant-loop-entry l = Flipped (λ k. ltb k l.entry-index) l.mask l.initial.entry-items l.entry-items
