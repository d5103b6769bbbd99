-- The outer loop has passed positions that are no pivots; the inner one is a search from q for both paths back at q. Assumes nothing.
use mathlib.Core.Path.{refl, sym, subst, ◌∙◌}
use native.Mathlib.Omega.{arith}
use Rattle.std.proofs.Common.{rules}
use Rattle.search.specs.declared.Goal.TheVariants.{Parted}
use Rattle.search.specs.Search.{IsFirstPivot}
use Rattle.search.proofs.Visiting.{goal_low, search_first, search_found, search_over}
use Rattle.search.proofs.Pivoting.{none_more, pivot_first, none_first}
use Rattle.search.proofs.first_pivot.Goals as goal

pub loop-node-init : goal.loop-node-init
loop-node-init c = (
  refl,
  search_first (c.begin-search.ensures.says c.args.steps.now) (goal_low (Parted c.only.result) c.pivots.q (omega (arith, c.requires, c.pivots-test.true))),
  c.begin-search.ensures.kept ∙ c.pivots.invariant.2,
)

pub loop-node-preserved : goal.loop-node-preserved
loop-node-preserved c =
    let v = c.in-Some.ensures.says.right c.loop-node.invariant.1.sound in
    search rules

pub pivots-preserved : goal.pivots-preserved
pivots-preserved c =
    let p = c.pivots.invariant in
    let l = c.loop-node.invariant in
    let v = c.in_default.ensures.says.right l.1.sound in (
      l.0 ∙ p.0,
      none_more (omega (arith, c.pivots.auto.q)) c.pivots-test.true c.only.ensures p.1 (search_over l.1 v) v.over,
      c.in_default.ensures.kept ∙ l.2,
    )

pub returns-clause-says : goal.returns-clause-says
returns-clause-says c g tables e =
    let p = c.pivots.invariant in
    subst (IsFirstPivot g) (sym p.0) (none_first c.pivots-test.false p.1 g tables e)

pub returns-then-is_met-clause-says : goal.returns-then-is_met-clause-says
returns-then-is_met-clause-says c =
    let l = c.loop-node.invariant in
    pivot_first (omega (arith, c.pivots.auto.q)) c.pivots-test.true c.only.ensures c.pivots.invariant.1 (search_found l.1 (c.in-Some.ensures.says.right l.1.sound) (sym c.is_met.ensures ∙ c.if-is_met.true))

pub returns-in_default-clause-says : goal.returns-in_default-clause-says
returns-in_default-clause-says c g tables e =
    let p = c.pivots.invariant in
    let l = c.loop-node.invariant in
    let v = c.in_default.ensures.says.right l.1.sound in
    subst (IsFirstPivot g) (sym (l.0 ∙ p.0))
    (none_first (omega arith) (none_more (omega (arith, c.pivots.auto.q)) c.pivots-test.true c.only.ensures p.1 (search_over l.1 v) v.over) g tables e)
