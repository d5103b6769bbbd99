-- The depth to which the rules read a whole text is above the measure at its first byte. Assumes nothing.
use Prim.Native.Nat.{suc, ◌*◌}
use native.Mathlib.Omega.{arith}
use lib.ListN.{length}
use Rattle.parts.proofs.Parsing.{all_parsed}
use Rattle.parts.proofs.parse.Goals as goal

pub returns-clause-says : goal.returns-clause-says
returns-clause-says c = let text = c.args.text.now in all_parsed text _ _ _ _ _ c.requires.0 c.requires.1 _ (c.pattern.ensures.says (suc (3 * suc (length text))) (omega arith))
