-- Every set is the empty one. Assumes nothing.
use Rattle.letters.proofs.Sets.{all_empty}
use Rattle.set_table.proofs.empty.Goals as goal

pub returns : goal.returns
returns c = all_empty 61 _ c.empty-none.ensures
