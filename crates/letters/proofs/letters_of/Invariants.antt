-- The sets passed are replaced, and the others are as they were. Assumes nothing.
use Rattle.std.proofs.Common.{◌≡◌, ◌&&◌, ℕ, ◌<◌, length}
use Rattle.alphabet.specs.Alphabet.{is_letter}
use Rattle.letters.specs.LetterSet.{has_letter, set_at}
use Rattle.letters.proofs.letters_of.Given as goal

abbrev pub invariant-loop-i : goal.invariant-loop-i
invariant-loop-i l = (length l.letters ≡ 61) × ((j c : ℕ) → j < l.i → has_letter (set_at l.letters j) c ≡ (is_letter c && has_letter (set_at l.sets j) c))
