-- The three words are empty. Assumes nothing.
use mathlib.Core.Path.{refl}
use Rattle.letters.proofs.Sets.{zero_none}
use Rattle.letters.proofs.LetterSet.empty.Goals as goal

pub returns : goal.returns
returns c = zero_none _ refl refl refl
