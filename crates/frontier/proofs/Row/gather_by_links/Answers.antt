-- The members in `left` wait, and the count has not passed 2 ^ 63. Assumes nothing.
use Rattle.std.proofs.Common.{◌≡◌, ap, ◌∙◌, arith}
use Rattle.frontier.proofs.Gathers.{below, gathering_start, gathering_on, gathering_end}
use Rattle.frontier.proofs.Row.gather_by_links.Goals as goal

pub loop-u-init : goal.loop-u-init
loop-u-init c =
    let e : c.into_iter-u-iterator.result.left ≡ c.args.members = ap (λ w. w.left) c.into_iter-u-iterator.ensures.into_iter_gives ∙ c.members-u-items.ensures in
    (tt, tt, rw e (gathering_start _ _ c.args.members c.requires.0), omega arith)

pub offset_bounds-self-u : goal.offset_bounds-self-u
offset_bounds-self-u c = let low = below _ _ c.loop-u.invariant.2.seeking c.in-Some.ensures.steps in record { fits = omega arith }

pub bounds-self-u : goal.bounds-self-u
bounds-self-u c = below _ _ c.loop-u.invariant.2.seeking c.in-Some.ensures.steps

pub offset_bounds-self-u-in-loop-u : goal.offset_bounds-self-u-in-loop-u
offset_bounds-self-u-in-loop-u c = let low = below _ _ c.loop-u.invariant.2.seeking c.in-Some.ensures.steps in record { fits = omega arith }

pub bounds-self-u-in-loop-u : goal.bounds-self-u-in-loop-u
bounds-self-u-in-loop-u c = below _ _ c.loop-u.invariant.2.seeking c.in-Some.ensures.steps

pub overflow_mul-u : goal.overflow_mul-u
overflow_mul-u c = let low = below _ _ c.loop-u.invariant.2.seeking c.in-Some.ensures.steps in record { fits = omega arith }

pub overflow_add-u : goal.overflow_add-u
overflow_add-u c = let low = below _ _ c.loop-u.invariant.2.seeking c.in-Some.ensures.steps in record { fits = omega (arith, c.requires.1) }

pub bounds-more-u : goal.bounds-more-u
bounds-more-u c = let low = below _ _ c.loop-u.invariant.2.seeking c.in-Some.ensures.steps in omega (arith, c.requires.1)

pub loop-u-preserved : goal.loop-u-preserved
loop-u-preserved c =
    let at = c.loop-u in
    let step = c.in-Some.ensures.steps in (
      tt,
      tt,
      gathering_on _ _ c.args.members at.u-iterator.left at.count at.most at.invariant.2 c.in-Some.u c.next.new.self.left _ _ step
          (omega (arith, c.plus_times-count.ensures)) (omega (arith, c.plus_times-count.ensures)) (omega arith),
      omega (arith, c.plus_times-count.ensures),
    )

pub returns : goal.returns
returns c =
    let at = c.loop-u in
    let end = gathering_end _ _ c.args.members at.u-iterator.left at.count at.most at.invariant.2 c.in-None.ensures.steps in
    (omega (arith, at.invariant.3, end.0), end.1)
