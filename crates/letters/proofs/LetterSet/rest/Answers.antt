-- The lowest letter is the least member of the first word that has one, and what `bits::rest` takes off the word is taken
-- off the set. Assumes nothing.
use mathlib.Core.Path.{refl, sym, ◌∙◌}
use native.Mathlib.Omega.{arith}
use Rattle.letters.proofs.Sets.{at_past, rest_of, low_word, middle_word, high_word, high_some, same_from_middle, same_from_high}
use Rattle.letters.proofs.LetterSet.rest.Goals as goal

pub returns-then-self-ne0 : goal.returns-then-self-ne0
returns-then-self-ne0 c =
    let s = c.args.self in
    let r = c.rest in
    (omega arith, rest_of s 0 s.low (low_word s (omega arith)) _ _ (low_word _ r.type_inv) (same_from_middle _ s refl refl) (omega arith) r.ensures.1)

pub returns-then-self-ne0-2 : goal.returns-then-self-ne0-2
returns-then-self-ne0-2 c =
    let s = c.args.self in
    let r = c.rest-then-self-ne0-2 in
    let z = c.if-self-ne0.false in
    (omega arith, rest_of s 64 s.middle (middle_word s z (omega arith)) _ _ (middle_word _ z r.type_inv) (same_from_high _ s refl) (omega arith) r.ensures.1)

pub rest-requires-2 : goal.rest-requires-2
rest-requires-2 c = high_some c.args.self c.if-self-ne0.false c.if-self-ne0-2.false c.requires

pub returns : goal.returns
returns c =
    let s = c.args.self in
    let r = c.rest-2 in
    let z = c.if-self-ne0.false in
    let y = c.if-self-ne0-2.false in (
      omega arith,
      rest_of s 128 s.high (high_word s z y (omega arith)) _ _ (high_word _ z y r.type_inv) (λ i. at_past _ r.type_inv i ∙ sym (at_past s (omega arith) i)) (high_some s z y c.requires)
          r.ensures.1,
    )
