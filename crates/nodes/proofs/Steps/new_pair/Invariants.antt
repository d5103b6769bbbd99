-- The loop goes through `from`; a position that it has passed has no free partner. Assumes nothing.
use Prim.Native.Nat.{ℕ}
use Rattle.bits.proofs.Walk.{Passed}
use Rattle.nodes.specs.Taken.{Free}
use Rattle.nodes.proofs.Steps.new_pair.Given as goal

abbrev pub invariant-loop-a : goal.invariant-loop-a
invariant-loop-a l =
    (goal.iterator-loop-a).can_next l.a-iterator × (goal.iterator-loop-a).is_finite l.a-iterator
    × Passed l.from l.a-iterator.left (λ a. (b : ℕ) → Free l.self.shares l.seen l.from l.to l.own a b → ⊥)
