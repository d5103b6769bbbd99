-- The members in `left` wait. Assumes nothing.
use Rattle.std.proofs.Common.{◌≡◌, ap, ◌∙◌, arith}
use Rattle.frontier.proofs.Gathers.{below, seeking_start, seeking_on, seeking_end}
use Rattle.frontier.proofs.Row.greatest.Goals as goal

pub loop-member-init : goal.loop-member-init
loop-member-init c =
    let e : c.into_iter-member-iterator.result.left ≡ c.args.members = ap (λ w. w.left) c.into_iter-member-iterator.ensures.into_iter_gives ∙ c.members-member-items.ensures in
    (tt, tt, rw e (seeking_start _ c.args.members c.requires))

pub offset_bounds-self-member : goal.offset_bounds-self-member
offset_bounds-self-member c = let low = below _ _ c.loop-member.invariant.2 c.in-Some.ensures.steps in record { fits = omega arith }

pub bounds-self-member : goal.bounds-self-member
bounds-self-member c = below _ _ c.loop-member.invariant.2 c.in-Some.ensures.steps

pub loop-member-preserved : goal.loop-member-preserved
loop-member-preserved c =
    let at = c.loop-member in
    (tt, tt, seeking_on _ c.args.members at.member-iterator.left at.most at.invariant.2 c.in-Some.member c.next.new.self.left _ c.in-Some.ensures.steps (omega arith))

pub returns : goal.returns
returns c =
    let at = c.loop-member in
    seeking_end _ c.args.members at.member-iterator.left at.most at.invariant.2 c.in-None.ensures.steps
