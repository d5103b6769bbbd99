-- Each refusal by its law, from what reading and the tests say. Where none applies, the graph that was built is the pattern's.
-- Assumes nothing.
use mathlib.Core.Path.{sym, ◌∙◌}
use Rattle.basics.proofs.Lists.{zeros}
use Rattle.calls.proofs.Marking.{accepted, says_mark}
use Rattle.calls.proofs.mark_answer.Goals as goal

pub read-requires : goal.read-requires
read-requires c = zeros 3721

pub returns : goal.returns
returns c =
    let a = c.args in
    let read = c.in_ok-built.ensures in
    says_mark a.pattern.now a.answer.now _ c.mark.result read.built.graph
    (accepted a.pattern.now a.answer.now (sym read.refusal) c.if-long.false (sym c.all_letters.ensures ∙ c.if-not-all_letters.false)) c.if-long.false c.mark.ensures
