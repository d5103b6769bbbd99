-- Each range is asked in turn: where the set has letters of it, the lowest of these is the first letter; where it has none, the ranges
-- left decide, and after the last one the lowest letter of all. Assumes nothing.
use mathlib.Core.Path.{◌≡◌, refl, sym, ap, ◌∙◌, subst}
use mathlib.Core.List.{List}
use Prim.Native.Nat.{ℕ, ◌+◌}
use native.Mathlib.Omega.{arith}
use lib.ListN.{get_or, drop}
use Rattle.letters.specs.LetterSet.{has_letter}
use Rattle.letters.specs.Order.{Range, small, order, first_by, first_letter}
use Rattle.letters.proofs.Sets.{only_letters, lowest_same}
use Rattle.letters.proofs.Order.{found, passed, range_at, range_and_rest}
use Rattle.letters.proofs.LetterSet.first_of_letters.Goals as goal

pub loop-range-init : goal.loop-range-init
unfolding first_letter
loop-range-init c = refl

pub returns-then-not-is_empty : goal.returns-then-not-is_empty
returns-then-not-is_empty c =
    let s = c.args.self in
    let i = c.loop-range.range-index in
    let both = c.intersection-shown in
    found s _ both.result c.requires.1 both.ensures (get_or order i small) (drop (i + 1) order) (range_at i _ c.loop-range-test.true) c.lowest.result c.lowest.ensures
    ∙ ap (λ (o : List Range). first_by o (has_letter s)) (sym (range_and_rest i c.loop-range-test.true)) ∙ c.loop-range.invariant

pub loop-range-preserved : goal.loop-range-preserved
loop-range-preserved c =
    let s = c.args.self in
    let i = c.loop-range.range-index in
    let both = c.intersection-shown in
    passed s _ both.result c.requires.1 both.ensures (get_or order i small) (drop (i + 1) order) (range_at i _ c.loop-range-test.true) (c.is_empty.ensures.0 c.if-not-is_empty.false)
    ∙ ap (λ (o : List Range). first_by o (has_letter s)) (sym (range_and_rest i c.loop-range-test.true)) ∙ c.loop-range.invariant

pub returns : goal.returns
returns c =
    let f = has_letter c.args.self in
    let at = c.loop-range in
    let all : at.range-index ≡ 3 = omega arith in
    lowest_same c.args.self f (only_letters f c.requires.1) c.lowest-2.result c.lowest-2.ensures
    ∙ subst (λ (i : ℕ). first_by (drop i order) f ≡ first_letter f) all at.invariant
