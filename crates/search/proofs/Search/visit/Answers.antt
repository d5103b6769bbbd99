-- What is found is taken up by one store of the node and one of the node before it. What is said of a sound search stands behind an
-- implication, in the invariant too. Assumes nothing.
use mathlib.Core.Path.{refl, ap, ◌∙◌}
use Prim.Native.Nat.{◌+◌}
use native.Mathlib.Omega.{arith}
use lib.ListN.{length}
use Rattle.search.specs.Search.{enqueue}
use Rattle.search.proofs.Visiting.{up_long, few_taken, passed_on, took, went_on}
use Rattle.search.proofs.Search.visit.Goals as goal

-- a search has fewer nodes
pub returns-then-self-ge-BACK-clause-says : goal.returns-then-self-ge-BACK-clause-says
returns-then-self-ge-BACK-clause-says c = record {
  ends = (refl, omega arith);
  right = λ w. absurd (omega (arith, c.if-self-ge-BACK.true, few_taken c.args.scratch.now.room w));
}

pub returns-in-Some-clause-says : goal.returns-in-Some-clause-says
returns-in-Some-clause-says c =
    let l = c.loop-self.invariant in
    record {
      ends = ap (λ n. n + 1) l.1;
      right = λ w. went_on l.0 l.1 (took c.from-x.result c.loop-self.scratch.room (l.2 w) c.loop-self-test.true c.from-x.ensures c.in-Some.ensures (c.push.ensures ∙ ap (λ n. enqueue c.loop-self.scratch.numbers.now n c.loop-self.self.head c.loop-self.self.tail) c.number.ensures) c.take_up.ensures refl refl refl);
    }

pub returns-in-Some-clause-kept : goal.returns-in-Some-clause-kept
returns-in-Some-clause-kept c = ap length c.push.ensures ∙ up_long _ _ _ _ ∙ ap length c.loop-self.invariant.0

pub loop-self-preserved : goal.loop-self-preserved
loop-self-preserved c =
    let l = c.loop-self.invariant in
    (l.0, l.1, λ w. passed_on c.from-x.result (l.2 w) c.loop-self-test.true c.from-x.ensures c.in_default.ensures refl refl refl refl)
