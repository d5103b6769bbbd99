-- A search under way stays one with each visit, and what is lent as long. Assumes nothing.
use Rattle.std.proofs.Common.{◌-◌, ◌≡◌, length}
use Rattle.search.specs.Search.{Searching}
use Rattle.search.proofs.to_goal.Given as goal

abbrev pub invariant-loop-i : goal.invariant-loop-i
invariant-loop-i l = Searching l.steps l.scratch.numbers.now l.goal l.start l.search × (length l.scratch.numbers.now ≡ length l.fn.scratch.numbers.now)

abbrev pub decreases-loop-i : goal.decreases-loop-i
decreases-loop-i l = 2048 - l.search.tail
