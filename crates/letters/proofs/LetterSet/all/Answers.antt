-- Every slot is in but 95, and that is the one that is no letter's. Assumes nothing.
use mathlib.Core.Path.{◌∙◌}
use mathlib.Core.Bool.{true, and-true}
use borrow.Author.Tests.{lt-ltb}
use Rattle.bits.proofs.Laws.{has_ones}
use Rattle.alphabet.specs.Alphabet.{is_letter}
use Rattle.letters.proofs.Sets.{middle_lacks, middle_has, by_letters}
use Rattle.letters.proofs.LetterSet.all.Goals as goal

pub returns : goal.returns
returns c k = by_letters _ middle_lacks (λ d. true) (λ i h. has_ones 64 i ∙ lt-ltb i 64 h) middle_has (λ i h. has_ones 64 i ∙ lt-ltb i 64 h) k ∙ and-true (is_letter k)
