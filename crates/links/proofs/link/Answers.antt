-- The loop's invariant: what the rows have, with those left to come, is what was to come at the start. Assumes nothing.
use mathlib.Core.Path.{◌≡◌, refl, ap, ◌∙◌}
use mathlib.Core.Bool.{Bool, ◌&&◌, ◌||◌}
use native.Mathlib.Omega.{arith}
use lib.ListN.{length, get_or}
use borrow.Author.Rules.{rules}
use Rattle.bits.specs.Bits.{has_bit}
use Rattle.links.proofs.Linking.{marks_kept, marks_few, link_turn, link_end, row_of}
use Rattle.links.proofs.link.Goals as goal

pub loop-a-init : goal.loop-a-init
loop-a-init c =
    let left = c.into_iter-a-iterator.result.left in
    let first : left ≡ c.intersection.result = cc in
    (tt, tt, record { small = marks_few left _ (omega arith) (marks_kept _ _ _ left c.below.ensures c.intersection.ensures first); to_come = λ a b. refl })

pub offset_bounds-rows-a : goal.offset_bounds-rows-a
offset_bounds-rows-a c = let i = row_of c.loop-a.invariant.2.small c.in-Some.ensures.steps in search rules

pub bounds-rows-a : goal.bounds-rows-a
bounds-rows-a c = row_of c.loop-a.invariant.2.small c.in-Some.ensures.steps

pub offset_bounds-rows-a-in-loop-a : goal.offset_bounds-rows-a-in-loop-a
offset_bounds-rows-a-in-loop-a c = let i = row_of c.loop-a.invariant.2.small c.in-Some.ensures.steps in omega arith

pub bounds-rows-a-in-loop-a : goal.bounds-rows-a-in-loop-a
bounds-rows-a-in-loop-a c = row_of c.loop-a.invariant.2.small c.in-Some.ensures.steps

pub loop-a-preserved : goal.loop-a-preserved
loop-a-preserved c =
    let at = c.loop-a.invariant.2 in
    let s = c.in-Some.ensures.steps in
    let low = row_of at.small s in
    let long : length c.loop-a.rows ≡ 61 = search rules in (
      tt,
      tt,
      record {
        small = omega (arith, at.small, s.fewer);
        to_come = λ a b. link_turn _ _ _ _ _ _ (omega arith) s c.union.ensures a b ∙ at.to_come a b;
      },
    )

pub returns : goal.returns
returns c a b =
    let start = c.args in
    let left = c.into_iter-a-iterator.result.left in
    let first : left ≡ c.intersection.result = cc in
    link_end _ _ start.firsts c.in-None.ensures.steps a b ∙ c.loop-a.invariant.2.to_come a b
    ∙ ap (λ (t : Bool). has_bit (get_or start.rows.now a 0) b || (t && has_bit start.firsts b)) (marks_kept _ _ _ left c.below.ensures c.intersection.ensures first a)
