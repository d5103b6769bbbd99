-- Each turn writes the letter of the node at hand before those written, and goes one step back. Assumes nothing.
use mathlib.Core.Path.{sym}
use Prim.Native.Nat.{◌<◌}
use native.Mathlib.Omega.{arith}
use Rattle.search.specs.Search.{back_of}
use Rattle.texts.proofs.Tracing.{write_back, write_start, write_next, write_end}
use Rattle.texts.proofs.trace.Goals as goal

pub loop-at-init : goal.loop-at-init
loop-at-init c =
    write_start c.args.sets.now c.args.evidence.now c.args.base c.requires.2 c.requires.4

pub loop-at-preserved : goal.loop-at-preserved
loop-at-preserved c =
    let at = c.loop-at in
    let back : back_of c.args.scratch.now.numbers.now at.at < at.at = c.requires.1.lower at.at c.loop-at-test.true (omega (arith, at.invariant.low)) in
    write_back (sym c.before-at.ensures) (write_next at.invariant c.loop-at-test.true back c.letter.ensures)

pub returns : goal.returns
returns c = write_end c.loop-at.invariant (omega (arith, c.loop-at-test.false))
