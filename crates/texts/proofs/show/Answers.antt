-- What is shown of sets is what is shown of their letters alone. Assumes nothing.
use Rattle.letters.specs.LetterSet.{has_letter, set_at}
use Rattle.alphabet.specs.Alphabet.{is_letter}
use Rattle.basics.proofs.Tests.{and_parts}
use mathlib.Core.Path.{sym, ◌∙◌}
use Rattle.texts.proofs.Letters.{showable_alike, shown_alike}
use Rattle.texts.proofs.show.Goals as goal

pub spell-requires : goal.spell-requires
spell-requires c =
    let cut = c.letters_of-cut in (
      c.requires.0,
      c.requires.1,
      λ i k h. (and_parts (is_letter k) (has_letter (set_at c.args.sets.now i) k) (sym (cut.ensures i k) ∙ h)).0,
      λ x y s. showable_alike _ _ cut.ensures (c.requires.2 x y s),
    )

pub returns-clause-says : goal.returns-clause-says
returns-clause-says c = shown_alike _ _ c.letters_of-cut.ensures _ _ _ _ _ _ _ c.spell.ensures.says
