-- Nothing is stored, and no link is counted. Assumes nothing.
use Rattle.basics.proofs.Lists.{zeros}
use Rattle.any_sets.proofs.tests.parse.Goals as goal

pub parse-requires : goal.parse-requires
parse-requires g c = (c.nothing_stored-tables.ensures, zeros 3721)
