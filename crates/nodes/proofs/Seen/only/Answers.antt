-- Of the pairs none is taken up. Assumes nothing.
use mathlib.Core.Path.{refl}
use Rattle.nodes.proofs.TakingUp.{take_first}
use Rattle.nodes.proofs.Seen.only.Goals as goal

pub returns : goal.returns
returns c = take_first c.args.state _ c.requires c.only.ensures refl
