-- A turn adds what it read to what stands in the room. Assumes nothing.
use mathlib.Core.Path.{subst}
use borrow.Author.Rules.{rules}
use Rattle.std.specs.Io.KnownBytes.{Consumes}
use Rattle.std.proofs.KnownBytes.{Consumes-trans}
use Rattle.vet.proofs.Reading.{filled_on}
use Rattle.vet.proofs.read_full.Goals as goal

pub loop-filled-preserved : goal.loop-filled-preserved
loop-filled-preserved g c =
    let at = c.loop-filled in (
      search rules,
      search rules,
      subst (Consumes _ _) (filled_on at.filled _ c.in_ok-n.n at.room c.read.new.buf at.invariant.1 c.in_ok-n.ensures.bound.0) (Consumes-trans _ _ _ _ _ at.invariant.2 c.in_ok-n.ensures.bytes.0),
    )
