-- Of the members that are passed, those with a number above 0 are kept. Assumes nothing.
use Prim.Native.Nat.{◌+◌, ◌*◌}
use lib.Dec.{ltb}
use lib.ListN.{get_or}
use Rattle.shares.proofs.Doubling.{Keeping}
use Rattle.shares.proofs.double_row.Given as goal

abbrev pub invariant-loop-i : goal.invariant-loop-i
invariant-loop-i l =
    (goal.iterator-loop-i).can_next l.i-iterator × (goal.iterator-loop-i).is_finite l.i-iterator
    × Keeping l.set l.i-iterator.left l.doubled (λ i. ltb 0 (get_or l.more (61 * l.u + i) 0))
