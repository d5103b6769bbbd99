-- No set has a letter. Assumes nothing.
use Rattle.parsed.proofs.Storing.{none_stored}
use Rattle.any_sets.proofs.tests.nothing_stored.Goals as goal

pub returns : goal.returns
returns c = none_stored _ c.empty.ensures
