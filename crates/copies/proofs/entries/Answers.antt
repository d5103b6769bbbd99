-- The entry is handed on as it is. Assumes nothing.
use Rattle.std.proofs.Common.{rules}
use Rattle.copies.specs.Copies.{Same}
use Rattle.copies.proofs.Copying.{repeats_as}
use Rattle.copies.proofs.entries.Goals as goal

pub returns : goal.returns
returns g c = repeats_as _ (Same {T = g.row.T.Denot}) (λ x y h. search rules) _ _ _ _ _ c.copy_on.ensures
