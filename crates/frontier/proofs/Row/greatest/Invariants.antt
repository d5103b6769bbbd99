-- The members in `left` wait. Assumes nothing.
use Rattle.std.proofs.Common.{slice_index}
use Rattle.frontier.proofs.Gathers.{Seeking}
use Rattle.frontier.proofs.Row.greatest.Given as goal

abbrev pub invariant-loop-member : goal.invariant-loop-member
invariant-loop-member l =
    goal.iterator-loop-member.can_next l.member-iterator × goal.iterator-loop-member.is_finite l.member-iterator
    × Seeking (slice_index l.self.most) l.fn.members l.member-iterator.left l.most
