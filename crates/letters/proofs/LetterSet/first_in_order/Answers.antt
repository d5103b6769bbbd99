-- The first letter of a set is that of its letters alone. Assumes nothing.
use mathlib.Core.Path.{sym, ◌∙◌}
use Rattle.basics.proofs.Tests.{and_parts}
use Rattle.alphabet.specs.Alphabet.{is_letter}
use Rattle.letters.specs.LetterSet.{has_letter}
use Rattle.letters.proofs.Order.{first_alike, letters_alike, first_of_none}
use Rattle.letters.proofs.LetterSet.first_in_order.Goals as goal

pub first_of_letters-requires : goal.first_of_letters-requires
first_of_letters-requires c =
    let s = c.args.self in
    let l = c.letters-letters in
    (c.is_empty.ensures.1 c.if-is_empty.false, λ k h. (and_parts (is_letter k) (has_letter s k) (sym (l.ensures k) ∙ h)).0)

pub returns-then-is_empty : goal.returns-then-is_empty
returns-then-is_empty c =
    let l = c.letters-letters in
    sym (first_of_none (has_letter l.result) (c.is_empty.ensures.0 c.if-is_empty.true)) ∙ first_alike _ _ (letters_alike (has_letter c.args.self) (has_letter l.result) l.ensures)

pub returns-else-is_empty : goal.returns-else-is_empty
returns-else-is_empty c =
    let l = c.letters-letters in
    c.first_of_letters.ensures ∙ first_alike _ _ (letters_alike (has_letter c.args.self) (has_letter l.result) l.ensures)
