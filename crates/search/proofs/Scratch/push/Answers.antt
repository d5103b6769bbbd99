-- The two stores are the definition's. Assumes nothing.
use mathlib.Core.Path.{refl}
use Rattle.search.specs.Search.{enqueue}
use Rattle.search.proofs.Scratch.push.Goals as goal

pub returns : goal.returns
unfolding enqueue
returns c = refl
