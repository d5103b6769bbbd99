-- The outer loop has passed positions that are no pivots; the inner one is a search from q for both paths back at q. Assumes nothing.
use Rattle.std.proofs.Common.{◌-◌, ◌≡◌, None, length}
use Rattle.search.specs.Search.{Searching}
use Rattle.search.proofs.Pivoting.{NoneBelow}
use Rattle.search.proofs.first_pivot.Given as goal

abbrev pub invariant-loop-node : goal.invariant-loop-node
invariant-loop-node l =
    (l.first ≡ l.initial.first) × Searching l.steps l.scratch.numbers.now l.goal l.q l.search × (length l.scratch.numbers.now ≡ length l.fn.scratch.numbers.now)

abbrev pub decreases-loop-node : goal.decreases-loop-node
decreases-loop-node l = 2048 - l.search.tail

abbrev pub invariant-pivots : goal.invariant-pivots
invariant-pivots l = (l.first ≡ None) × NoneBelow l.steps l.positions l.q × (length l.scratch.numbers.now ≡ length l.fn.scratch.numbers.now)
