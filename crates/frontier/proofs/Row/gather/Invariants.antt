-- The members in `left` wait. Assumes nothing.
use Rattle.std.proofs.Common.{slice_index}
use Rattle.frontier.proofs.Gathers.{Gathering}
use Rattle.frontier.proofs.Row.gather.Given as goal

abbrev pub invariant-loop-other : goal.invariant-loop-other
invariant-loop-other l =
    goal.iterator-loop-other.can_next l.other-iterator × goal.iterator-loop-other.is_finite l.other-iterator
    × Gathering (slice_index l.self.counts) (slice_index l.self.most) l.fn.members l.other-iterator.left l.sum l.most
