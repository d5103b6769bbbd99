-- What the set shares with that of all letters. Assumes nothing.
use mathlib.Core.Path.{◌∙◌, ap}
use mathlib.Core.Bool.{◌&&◌, and_comm}
use Rattle.alphabet.specs.Alphabet.{is_letter}
use Rattle.letters.specs.LetterSet.{has_letter}
use Rattle.letters.proofs.LetterSet.letters.Goals as goal

pub returns : goal.returns
returns c k = c.intersection.ensures k ∙ ap (λ t. has_letter c.args.self k && t) (c.all.ensures k) ∙ and_comm (has_letter c.args.self k) (is_letter k)
