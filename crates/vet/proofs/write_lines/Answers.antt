-- Each turn brings the run on: a line has 18 bytes at most, and the room is 32. Assumes nothing.
use native.Mathlib.Omega.{arith}
use borrow.Author.Rules.{rules}
use Rattle.vet.proofs.Writing.{on_err, writes_next, writes_begun, writes_all}
use Rattle.vet.proofs.write_lines.Goals as goal

pub loop-len-preserved : goal.loop-len-preserved
loop-len-preserved g c = (search rules, writes_next c.loop-len.invariant.1 (omega arith) c.in-Some.ensures.next_line c.in_ok-write_whole.ensures.all)

pub returns-clause-all : goal.returns-clause-all
returns-clause-all g c = writes_all c.loop-len.invariant.1 (omega arith) c.in_default.ensures.next_line

pub returns-in_err-write_whole-clause-begun : goal.returns-in_err-write_whole-clause-begun
returns-in_err-write_whole-clause-begun g c =
    on_err c.from_residual.result (writes_begun c.loop-len.invariant.1 (omega arith) c.in-Some.ensures.next_line c.in_err-write_whole.ensures.begun)
