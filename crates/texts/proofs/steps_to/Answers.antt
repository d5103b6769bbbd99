-- Each turn is one step back, and what is behind the node that it comes to is behind the whole. Assumes nothing.
use mathlib.Core.Path.{sym, subst}
use Prim.Native.Nat.{ℕ, ◌+◌, ◌<◌}
use native.Mathlib.Omega.{arith}
use Rattle.search.specs.Search.{back_of}
use Rattle.texts.proofs.Tracing.{Counted, count_next, count_end}
use Rattle.texts.proofs.steps_to.Goals as goal

pub loop-j-preserved : goal.loop-j-preserved
loop-j-preserved c =
    let back : back_of c.args.scratch.now.numbers.now c.loop-j.j < c.loop-j.j = c.requires.lower c.loop-j.j c.loop-j-test.true (omega (arith, c.loop-j.invariant.low)) in
    let l = c.loop-j in
    subst (λ (k : ℕ). Counted c.args.scratch.now.numbers.now c.args.i k (l.n + 1)) (sym c.before-j.ensures) (count_next c.loop-j-test.true back l.invariant)

pub returns : goal.returns
returns c =
    let l = c.loop-j in
    count_end (omega (arith, c.loop-j-test.false)) l.invariant
