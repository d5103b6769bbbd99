-- The greater one comes first. Assumes nothing.
use native.Mathlib.Omega.{arith}
use Rattle.basics.proofs.Tests.{le_or_lt}
use Rattle.nodes.proofs.Nodes.{pack_less, pack_more}
use Rattle.nodes.proofs.Node.parted.Goals as goal
use Rattle.std.proofs.lemmas.Grind.{common_steps}

pub returns : goal.returns
returns c = grind (arith, common_steps, pack_more, pack_less, le_or_lt)
