-- Each refusal by its law, with memory as it was; otherwise what the search shows of the graph that was built, which is the
-- pattern's and trim. Assumes nothing.
use mathlib.Core.Path.{sym, ◌∙◌}
use native.Mathlib.Omega.{arith}
use lib.ListN.{length}
use borrow.Author.Rules.{rules}
use Rattle.basics.proofs.Lists.{zeros}
use Rattle.calls.proofs.Vetting.{by_pattern, says_verdict, trim_built}
use Rattle.calls.proofs.vet_pattern.Goals as goal

pub read-requires : goal.read-requires
read-requires c = zeros 3721

pub vet-requires : goal.vet-requires
vet-requires c =
    let a = c.args in
    let read = c.in_ok-built.ensures in
    let built = read.built in
    (record { bounded = built.bounded; trim = trim_built a.pattern.now _ built.graph (sym read.refusal); single = built.single }, omega arith, search rules)

pub returns : goal.returns
returns c =
    let a = c.args in
    let read = c.in_ok-built.ensures in
    let v = c.vet in
    says_verdict a.pattern.now a.evidence.now v.new.evidence a.scratch.now v.new.scratch _ v.result
    (by_pattern a.pattern.now (length a.evidence.now) (length a.scratch.now) (omega arith) (omega arith) ∙ sym read.refusal) read.built.graph v.ensures (omega arith) (search rules)
