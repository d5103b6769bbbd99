-- The new row is filled for the positions that are not left. Assumes nothing.
use Rattle.std.proofs.Common.{◌≡◌, ℕ, ◌+◌, ◌%◌, ◌^◌, ◌<◌, get_or, lt_of_le_of_lt, ap, ◌∙◌, arith, rules, refl}
use lib.Bits.{and_le_r}
use Rattle.frontier.proofs.Fills.{below, filling_start, filling_on, filling_past, filling_end}
use Rattle.frontier.proofs.Row.step.Goals as goal

pub loop-i-init : goal.loop-i-init
loop-i-init c =
    let a = c.args in
    let e : c.into_iter-i-iterator.result.left ≡ a.holds = ap (λ w. w.left) c.into_iter-i-iterator.ensures.into_iter_gives ∙ c.members-i-items.ensures in
    (tt, tt, rw e (filling_start a.links.now a.holds a.self.now c.requires a.next.now.counts a.next.now.most (search rules) (search rules) a.next.now.stopped), λ none. absurd (none refl))

pub offset_bounds-links-i : goal.offset_bounds-links-i
offset_bounds-links-i c = let low = below _ _ _ c.loop-i.invariant.2 c.in-Some.ensures.steps in record { fits = omega arith }

pub bounds-links-i : goal.bounds-links-i
bounds-links-i c = let low = below _ _ _ c.loop-i.invariant.2 c.in-Some.ensures.steps in omega arith

pub arrived-arrived-requires : goal.arrived-arrived-requires
arrived-arrived-requires c =
    let a = c.args in
    let narrow : a.self.now.active < 2 ^ 61 = search rules in
    (c.if-members-ne0.true, lt_of_le_of_lt (and_le_r (get_or a.links.now.before.now c.in-Some.i 0) a.self.now.active) narrow, below _ _ _ c.loop-i.invariant.2 c.in-Some.ensures.steps, c.loop-i.invariant.3)

pub bounds-links-i-then-members-ne0 : goal.bounds-links-i-then-members-ne0
bounds-links-i-then-members-ne0 c = let low = below _ _ _ c.loop-i.invariant.2 c.in-Some.ensures.steps in omega arith

pub offset_bounds-next-i : goal.offset_bounds-next-i
offset_bounds-next-i c = let low = below _ _ _ c.loop-i.invariant.2 c.in-Some.ensures.steps in record { fits = omega arith }

pub bounds-next-i : goal.bounds-next-i
bounds-next-i c = below _ _ _ c.loop-i.invariant.2 c.in-Some.ensures.steps

pub offset_bounds-next-i-then-members-ne0 : goal.offset_bounds-next-i-then-members-ne0
offset_bounds-next-i-then-members-ne0 c = let low = below _ _ _ c.loop-i.invariant.2 c.in-Some.ensures.steps in record { fits = omega arith }

pub bounds-next-i-then-members-ne0 : goal.bounds-next-i-then-members-ne0
bounds-next-i-then-members-ne0 c = below _ _ _ c.loop-i.invariant.2 c.in-Some.ensures.steps

pub with-active-requires : goal.with-active-requires
with-active-requires c = let low = below _ _ _ c.loop-i.invariant.2 c.in-Some.ensures.steps in omega arith

pub loop-i-preserved-then-members-ne0 : goal.loop-i-preserved-then-members-ne0
loop-i-preserved-then-members-ne0 c =
    let a = c.args in
    let at = c.loop-i in
    let gives = c.arrived-arrived.ensures.0 in
    let o = c.with-active in (
      tt,
      tt,
      filling_on a.links.now a.holds a.self.now at.next.counts at.next.most at.i-iterator.left at.active at.invariant.2 c.in-Some.i c.next.new.self.left o.result _ _ c.in-Some.ensures.steps
          c.if-members-ne0.true o.type_inv o.ensures
          record { counted = gives.counted; marked = ap (λ (x : ℕ). (x + get_or a.links.now.credits.now c.in-Some.i 0) % 2 ^ 32) gives.marked },
      c.arrived-arrived.ensures.1,
    )

pub loop-i-preserved : goal.loop-i-preserved
loop-i-preserved c =
    let a = c.args in
    let at = c.loop-i in (
      tt,
      tt,
      filling_past a.links.now a.holds a.self.now at.next.counts at.next.most at.i-iterator.left at.active at.invariant.2 c.in-Some.i c.next.new.self.left c.in-Some.ensures.steps
          c.if-members-ne0.false,
      at.invariant.3,
    )

pub invariant_of-next-2 : goal.invariant_of-next-2
invariant_of-next-2 c =
    let a = c.args in
    let at = c.loop-i in
    record {
      states = (filling_end a.links.now a.holds a.self.now at.next.counts at.next.most at.i-iterator.left at.active at.invariant.2 c.requires c.in-None.ensures.steps).0;
      stopped = at.invariant.2.stopped;
    }

pub returns : goal.returns
returns c =
    let a = c.args in
    let at = c.loop-i in
    (filling_end a.links.now a.holds a.self.now at.next.counts at.next.most at.i-iterator.left at.active at.invariant.2 c.requires c.in-None.ensures.steps).1 _ refl refl refl
