-- The tables show the pattern's graph, and what holds of the one holds of the other. Assumes nothing.
use mathlib.Core.Path.{◌≡◌, refl, sym, ap, ◌∙◌, subst}
use mathlib.Core.Bool.{Bool}
use Prim.Native.Nat.{ℕ}
use native.Mathlib.Omega.{arith}
use mir.Val.{Fits}
use mir.Facts.{to_z-of_z}
use mir.Syntax.{w32, w64}
use lib.ListN.{get_or}
use Rattle.graph.specs.Built.{graph_of_built}
use Rattle.graph.specs.Taken.{letters_taken}
use Rattle.graph.proofs.Bounds.{row_below}
use Rattle.graph.proofs.Taken.{taken_first}
use Rattle.marks.specs.Answers.{Answered, Summed}
use Rattle.marks.proofs.Shown.{holders_low, looked_up, built_summed}
use borrow.Author.Rules.{rules}
use Rattle.marks.proofs.mark.Goals as goal
use Rattle.marks.proofs.mark.Goals.{After-run-end, then-b, else-b}

-- what the run gives, of the pattern's graph
summed : (c : After-run-end) → let g = graph_of_built c.args.b c.args.more.now in
    Summed g c.args.answer.now c.run-end.result.sum.count c.run-end.result.sum.most × (c.run-end.result.taken ≡ letters_taken g c.args.answer.now)
summed c =
    let a = c.args in
    built_summed a.b a.more c.requires.0 c.holders_of_letters-holders.result c.holders_of_letters-holders.ensures c.requires.1 c.states_before-before.ensures refl
    (elim c.if-b.branch [
      | then-b w ↦ w.links-is ∙ ap (λ (t : Bool). looked_up t a.more) (sym w.if-b.true)
      | else-b w ↦ w.links-is ∙ ap (λ (t : Bool). looked_up t a.more) (sym w.if-b.false)
    ]) c.run-end.ensures

pub states_before-before-requires : goal.states_before-before-requires
states_before-before-requires c =
    let b = c.args.b in
    λ u. let f : Fits w64 (get_or b.follow u 0) = search rules in row_below b c.args.more.now c.requires.0 u f.fits

pub run-end-requires : goal.run-end-requires
run-end-requires c =
    let holders = c.holders_of_letters-holders in
    let fits : (x : ℕ) → Fits w64 (get_or holders.result x 0) = λ x. search rules in
    (c.requires.2, (λ x. holders_low c.args.b c.args.more c.requires.0 holders.result holders.ensures x (fits x).fits), search rules)

pub mark_of_sum-requires : goal.mark_of_sum-requires
mark_of_sum-requires c = ((summed (goal.at.mark_of_sum-requires c).After-run-end).0.low, c.requires.2)

pub overflow_cast-result : goal.overflow_cast-result
overflow_cast-result c =
    let taken = (summed (goal.at.overflow_cast-result c).After-run-end).1 in
    record { fits = omega (arith, taken, (taken_first (graph_of_built c.args.b c.args.more.now) c.args.answer.now).within, c.requires.2) }

pub returns : goal.returns
returns c =
    let w = summed (goal.at.returns c).After-run-end in
    (subst (Answered _ _ _) (sym (to_z-of_z {w = w32} (search rules) ∙ c.mark_of_sum.ensures)) w.0.answered, w.1)
