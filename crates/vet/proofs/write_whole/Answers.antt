-- A write that fails keeps what was written, and one that does not adds the next bytes. Assumes nothing.
use mathlib.Core.Path.{refl}
use Rattle.vet.proofs.Writing.{written_on, kept_on, begun}
use Rattle.vet.proofs.write_whole.Goals as goal
use Rattle.vet.proofs.write_whole.Goals.{in-Ok, in-Err}

pub loop-preserved : goal.loop-preserved
loop-preserved g c = elim c.match-write.branch [
  | in-Ok w ↦ written_on c.args.bytes.now c.loop.written _ _ _ c.loop.invariant w.in-Ok.n c.match-write.written w.written-is w.in-Ok.ensures.bound w.in-Ok.ensures.bytes
  | in-Err w ↦ kept_on c.args.bytes.now c.loop.written _ _ _ c.loop.invariant c.match-write.written w.written-is w.in-Err.ensures.bytes
]

pub returns-in-Err-2-clause-begun : goal.returns-in-Err-2-clause-begun
returns-in-Err-2-clause-begun g c = begun (kept_on c.args.bytes.now c.loop.written _ _ _ c.loop.invariant _ refl c.in-Err.ensures.bytes)

pub returns-clause-begun : goal.returns-clause-begun
returns-clause-begun g c = begun c.loop.invariant

pub returns-in-Ok-2-clause-begun : goal.returns-in-Ok-2-clause-begun
returns-in-Ok-2-clause-begun g c = begun (written_on c.args.bytes.now c.loop.written _ _ _ c.loop.invariant c.in-Ok.n _ refl c.in-Ok.ensures.bound c.in-Ok.ensures.bytes)
