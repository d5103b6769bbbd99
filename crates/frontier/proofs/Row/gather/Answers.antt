-- The members in `left` wait; the first was taken by itself. Assumes nothing.
use Rattle.std.proofs.Common.{◌≡◌, ℕ, ◌+◌, ◌^◌, ◌<◌, max, slice_index, sym, ap, ◌∙◌, arith, refl}
use Rattle.bits.specs.Bits.{has_bit, Taken}
use Rattle.bits.proofs.Laws.{has_none, member_below}
use Rattle.bits.proofs.Walk.{walk_end}
use Rattle.frontier.specs.declared.Row.{Row}
use Rattle.frontier.proofs.Gathers.{Gathering, below, gathering_first, gathering_on, gathering_end}
use Rattle.frontier.proofs.Row.gather.Goals as goal

first_taken : (row : Row) (members t r : ℕ) → members < 2 ^ 61 → Taken has_bit (λ (m : ℕ). m) members t r
    → Gathering (slice_index row.counts) (slice_index row.most) members r (slice_index row.counts t) (slice_index row.most t)
first_taken row members t r h taken = gathering_first _ _ members t r (slice_index row.counts t) h taken (omega (arith, row.stopped t)) refl

pub returns-in_default : goal.returns-in_default
returns-in_default c =
    let a = c.args in
    (omega (arith, walk_end 0 ◌+◌ (slice_index a.self.now.counts) 61 a.members c.in_default.ensures), sym (walk_end 0 max (slice_index a.self.now.most) 61 a.members c.in_default.ensures))

pub offset_bounds-self-first : goal.offset_bounds-self-first
offset_bounds-self-first c = let low = member_below 61 c.args.members c.in-Some.first c.requires c.in-Some.ensures.least.here in record { fits = omega arith }

pub bounds-self-first : goal.bounds-self-first
bounds-self-first c = member_below 61 c.args.members c.in-Some.first c.requires c.in-Some.ensures.least.here

pub offset_bounds-self-first-2 : goal.offset_bounds-self-first-2
offset_bounds-self-first-2 c = let low = member_below 61 c.args.members c.in-Some.first c.requires c.in-Some.ensures.least.here in record { fits = omega arith }

pub bounds-self-first-2 : goal.bounds-self-first-2
bounds-self-first-2 c = member_below 61 c.args.members c.in-Some.first c.requires c.in-Some.ensures.least.here

pub returns-then-others-eq0 : goal.returns-then-others-eq0
returns-then-others-eq0 c =
    let a = c.args in
    let some = c.in-Some in
    let start = first_taken a.self.now a.members some.first some.others c.requires some.ensures in
    let end = gathering_end _ _ a.members some.others _ _ start (λ i. ap (λ (m : ℕ). has_bit m i) c.if-others-eq0.true ∙ has_none i) in
    (omega (arith, a.self.now.stopped some.first, end.0), end.1)

pub loop-other-init : goal.loop-other-init
loop-other-init c =
    let some = c.in-Some in
    let e : c.into_iter-other-iterator.result.left ≡ some.others = ap (λ w. w.left) c.into_iter-other-iterator.ensures.into_iter_gives ∙ c.members-other-items.ensures in
    (tt, tt, rw e (first_taken c.args.self.now c.args.members some.first some.others c.requires some.ensures))

pub offset_bounds-self-other : goal.offset_bounds-self-other
offset_bounds-self-other c = let low = below _ _ c.loop-other.invariant.2.seeking c.in-Some-other.ensures.steps in record { fits = omega arith }

pub bounds-self-other : goal.bounds-self-other
bounds-self-other c = below _ _ c.loop-other.invariant.2.seeking c.in-Some-other.ensures.steps

pub offset_bounds-self-other-in-loop-other : goal.offset_bounds-self-other-in-loop-other
offset_bounds-self-other-in-loop-other c = let low = below _ _ c.loop-other.invariant.2.seeking c.in-Some-other.ensures.steps in record { fits = omega arith }

pub bounds-self-other-in-loop-other : goal.bounds-self-other-in-loop-other
bounds-self-other-in-loop-other c = below _ _ c.loop-other.invariant.2.seeking c.in-Some-other.ensures.steps

pub loop-other-preserved : goal.loop-other-preserved
loop-other-preserved c =
    let at = c.loop-other in
    let other = c.in-Some-other.other in (
      tt,
      tt,
      gathering_on _ _ c.args.members at.other-iterator.left at.sum at.most at.invariant.2 other c.next.new.self.left _ _ c.in-Some-other.ensures.steps
          (omega (arith, c.args.self.now.stopped other)) refl (omega arith),
    )

pub returns : goal.returns
returns c =
    let at = c.loop-other in
    let end = gathering_end _ _ c.args.members at.other-iterator.left at.sum at.most at.invariant.2 c.in-None.ensures.steps in
    (c.min.ensures ∙ end.0, end.1)
