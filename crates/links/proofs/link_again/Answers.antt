-- The loop's invariant: what the rows have and the numbers of links are, with those left to come, is what was to come at the start;
-- and where none was linked before, no number has changed. Assumes nothing.
use mathlib.Core.Path.{◌≡◌, refl, ap, ◌∙◌}
use mathlib.Core.Bool.{Bool, false, not, ◌&&◌, ◌||◌}
use native.Mathlib.Omega.{arith}
use lib.Dec.{eqb}
use lib.ListN.{length, get_or}
use borrow.Author.Rules.{rules}
use borrow.Author.Tests.{eqb-true, not-false}
use Rattle.std.specs.Prelude.{if◌then◌else◌}
use Rattle.basics.proofs.Tests.{or_parts}
use Rattle.bits.specs.Bits.{has_bit}
use Rattle.links.specs.Rows.{Marks, entry, number, after}
use Rattle.links.proofs.Linking.{marks_kept, marks_few, marks_row, link_turn, link_end, row_of}
use Rattle.links.proofs.Counting.{count_turn, count_end, further_small}
use Rattle.links.proofs.link_again.Goals as goal

pub loop-a-init : goal.loop-a-init
loop-a-init c =
    let left = c.into_iter-a-iterator.result.left in
    let first : left ≡ c.intersection.result = cc in (
      tt,
      tt,
      record {
        small = marks_few left _ (omega arith) (marks_kept _ _ _ left c.below-all.ensures c.intersection.ensures first);
        to_come = λ a b. refl;
        bytes = λ a b k. omega (arith, c.fits-more (entry a b));
        to_count = λ a b k. refl;
        none = λ e. refl;
      },
    )

pub offset_bounds-rows-a : goal.offset_bounds-rows-a
offset_bounds-rows-a c = let i = row_of c.loop-a.invariant.2.small c.in-Some.ensures.steps in search rules

pub bounds-rows-a : goal.bounds-rows-a
bounds-rows-a c = row_of c.loop-a.invariant.2.small c.in-Some.ensures.steps

pub add-requires : goal.add-requires
add-requires c =
    let old = c.intersection-old in
    (row_of c.loop-a.invariant.2.small c.in-Some.ensures.steps, marks_few old.result _ old.type_inv (marks_row _ _ _ _ _ c.below-all.ensures c.intersection-ends.ensures old.ensures))

pub offset_bounds-rows-a-in-loop-a : goal.offset_bounds-rows-a-in-loop-a
offset_bounds-rows-a-in-loop-a c = let i = row_of c.loop-a.invariant.2.small c.in-Some.ensures.steps in omega arith

pub bounds-rows-a-in-loop-a : goal.bounds-rows-a-in-loop-a
bounds-rows-a-in-loop-a c = row_of c.loop-a.invariant.2.small c.in-Some.ensures.steps

pub offset_bounds-rows-a-in-loop-a-2 : goal.offset_bounds-rows-a-in-loop-a-2
offset_bounds-rows-a-in-loop-a-2 c = let i = row_of c.loop-a.invariant.2.small c.in-Some.ensures.steps in omega arith

pub bounds-rows-a-in-loop-a-2 : goal.bounds-rows-a-in-loop-a-2
bounds-rows-a-in-loop-a-2 c = row_of c.loop-a.invariant.2.small c.in-Some.ensures.steps

pub loop-a-preserved : goal.loop-a-preserved
loop-a-preserved c =
    let at = c.loop-a.invariant.2 in
    let s = c.in-Some.ensures.steps in
    let low = row_of at.small s in
    let long : length c.loop-a.rows ≡ 61 = search rules in
    let old = c.intersection-old in
    let both : Marks old.result (λ j. has_bit (get_or c.loop-a.rows c.in-Some.a 0) j && has_bit c.args.firsts j) = marks_row _ _ _ _ _ c.below-all.ensures c.intersection-ends.ensures old.ensures in
    let none : (c.loop-a.again ≡ false) × (not (eqb old.result 0) ≡ false) → old.result ≡ 0 = λ parts. eqb-true old.result 0 (not-false (eqb old.result 0) parts.1) in (
      tt,
      tt,
      record {
        small = omega (arith, at.small, s.fewer);
        to_come = λ a b. link_turn _ _ _ _ _ _ (omega arith) s c.union.ensures a b ∙ at.to_come a b;
        bytes = further_small _ _ _ _ c.add.ensures at.bytes;
        to_count = λ a b k. count_turn _ _ _ _ _ _ _ _ _ (omega arith) s c.union.ensures both c.add.ensures at.bytes a b k ∙ at.to_count a b k;
        none = λ e. let parts = or_parts c.loop-a.again (not (eqb old.result 0)) e in c.add.ensures.none (none parts) ∙ at.none parts.0;
      },
    )

pub returns : goal.returns
returns c =
    let at = c.loop-a.invariant.2 in
    let start = c.args in
    let left = c.into_iter-a-iterator.result.left in
    let first : left ≡ c.intersection.result = cc in
    let walked = marks_kept _ _ _ left c.below-all.ensures c.intersection.ensures first in
    record {
      linked = λ a b. link_end _ _ start.firsts c.in-None.ensures.steps a b ∙ at.to_come a b ∙ ap (λ (t : Bool). has_bit (get_or start.rows.now a 0) b || (t && has_bit start.firsts b)) (walked a);
      counts = λ a b k l.
          count_end _ _ _ start.firsts c.in-None.ensures.steps a b ∙ at.to_count a b l
          ∙ ap (λ (t : Bool). after (if t && has_bit start.firsts b then 1 else 0) (number start.rows.now start.more.now a b)) (walked a ∙ ap (λ (t : Bool). t && has_bit start.lasts a) k);
      none = at.none;
    }
