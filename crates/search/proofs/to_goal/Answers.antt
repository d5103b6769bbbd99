-- A search under way stays one with each visit, and what is lent as long. Assumes nothing.
use mathlib.Core.Path.{sym, ◌∙◌}
use Rattle.search.proofs.Visiting.{search_first, search_over, begun_found, search_found}
use Rattle.search.proofs.Found.{none_found}
use Rattle.search.proofs.to_goal.Goals as goal

pub returns-then-is_met-clause-says : goal.returns-then-is_met-clause-says
returns-then-is_met-clause-says c = begun_found (c.begin-search.ensures.says c.args.steps.now) (sym c.is_met.ensures ∙ c.if-is_met.true)

pub loop-i-init : goal.loop-i-init
loop-i-init c = (search_first (c.begin-search.ensures.says c.args.steps.now) (sym c.is_met.ensures ∙ c.if-is_met.false), c.begin-search.ensures.kept)

pub returns-clause-says : goal.returns-clause-says
returns-clause-says c =
    let l = c.loop-i.invariant.0 in
    let v = c.in_default.ensures.says.right l.sound in
    none_found (search_over l v) v.over

pub returns-then-is_met-2-clause-says : goal.returns-then-is_met-2-clause-says
returns-then-is_met-2-clause-says c =
    let l = c.loop-i.invariant.0 in
    search_found l (c.in-Some.ensures.says.right l.sound) (sym c.is_met-in-Some.ensures ∙ c.if-is_met-2.true)
