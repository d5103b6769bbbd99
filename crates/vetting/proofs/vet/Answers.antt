-- The tables say what the graph says, so the first pivot found is the graph's; where there is none, the search for two readings that
-- part and both come to an end decides. Assumes nothing.
use mathlib.Core.Path.{refl}
use native.Mathlib.Omega.{arith}
use Rattle.std.proofs.Common.{rules}
use Rattle.graph.specs.Built.{graph_of_built}
use Rattle.vetting.proofs.Answering.{within, tables_of, report_of, showable, single_answer, steady_answer}
use Rattle.vetting.proofs.vet.Goals.{in-None+in-None-spell, in-None+in-Some-spell, in-Some}
use Rattle.vetting.proofs.vet.Goals as goal

pub double_rows-requires : goal.double_rows-requires
double_rows-requires c = (within c.requires.0, λ e u i. search rules)

pub spell-requires : goal.spell-requires
spell-requires c =
    let fit = c.requires.0 in
    let tables = tables_of fit _ _ c.double_rows.ensures c.share_rows_of_letters.ensures in
    (omega arith, omega (arith, c.requires.1), fit.bounded.letters, showable fit tables)

pub runaway-verdict-requires : goal.runaway-verdict-requires
runaway-verdict-requires c =
    let tables = tables_of c.requires.0 _ _ c.double_rows.ensures c.share_rows_of_letters.ensures in
    (c.requires.0, tables, c.in-Some.ensures.says (graph_of_built c.args.b c.args.more.now) tables refl, c.requires.1)

pub returns : goal.returns
returns c =
    let g = graph_of_built c.args.b c.args.more.now in
    let tables = tables_of c.requires.0 _ _ c.double_rows.ensures c.share_rows_of_letters.ensures in
    record {
      positions = refl;
      reports = elim c.match-first_pivot.branch [
        | in-None+in-None-spell w ↦ report_of w.evidence-is w.verdict-is (single_answer c.requires.0 tables (w.in-None.ensures.says g tables refl) w.in-None-spell.ensures.says)
        | in-None+in-Some-spell w ↦ report_of w.evidence-is w.verdict-is (steady_answer c.requires.0 tables (w.in-None.ensures.says g tables refl) w.in-Some-spell.ensures.says)
        | in-Some w ↦ report_of w.evidence-is w.verdict-is w.runaway-verdict.ensures
      ];
    }
