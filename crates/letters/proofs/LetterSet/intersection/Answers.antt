-- `&` works bit by bit on the words, and so code by code on the sets. Assumes nothing.
use mathlib.Core.Path.{refl}
use mathlib.Core.Bool.{◌&&◌}
use Rattle.bits.proofs.Laws.{has_and}
use Rattle.letters.proofs.Sets.{pointwise}
use Rattle.letters.proofs.LetterSet.intersection.Goals as goal

pub returns : goal.returns
returns c =
    let s = c.args.self in
    let t = c.args.other in
    pointwise ◌&&◌ _ s t refl (has_and s.low t.low) (has_and s.middle t.middle) (has_and s.high t.high)
