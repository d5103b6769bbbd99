-- The members in `left` wait, and the count has not passed 2 ^ 63. Assumes nothing.
use Rattle.std.proofs.Common.{◌*◌, ◌^◌, ◌≤◌, slice_index}
use Rattle.frontier.specs.Rows.{links_to}
use Rattle.frontier.proofs.Gathers.{Gathering}
use Rattle.frontier.proofs.Row.gather_by_links.Given as goal

abbrev pub invariant-loop-u : goal.invariant-loop-u
invariant-loop-u l =
    goal.iterator-loop-u.can_next l.u-iterator × goal.iterator-loop-u.is_finite l.u-iterator
    × Gathering (λ u. links_to l.more u l.fn.i * slice_index l.self.counts u) (slice_index l.self.most) l.fn.members l.u-iterator.left l.count l.most × (l.count ≤ 2 ^ 63)
