-- The first node is all that is taken up. Assumes nothing.
use mathlib.Core.Path.{refl, ap, ◌∙◌}
use lib.ListN.{length}
use Rattle.search.proofs.Visiting.{up_long, search_begin}
use Rattle.search.proofs.Search.begin.Goals as goal

pub returns-clause-says : goal.returns-clause-says
returns-clause-says c = search_begin _ _ _ _ c.args.scratch.now.room c.requires c.push.ensures c.only.ensures refl refl refl

pub returns-clause-kept : goal.returns-clause-kept
returns-clause-kept c = ap length c.push.ensures ∙ up_long _ _ _ _
