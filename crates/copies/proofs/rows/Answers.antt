-- A row is handed on with its members moved. Assumes nothing.
use Rattle.std.proofs.Common.{rules}
use Rattle.copies.specs.Copies.{Moved}
use Rattle.copies.proofs.Copying.{repeats_as}
use Rattle.copies.proofs.rows.Goals as goal

pub returns : goal.returns
returns c = repeats_as _ (Moved c.args.stretch.by) (λ x y h. search rules) _ _ _ _ _ c.copy_on.ensures
