-- The words stand in the order of their codes, so the lowest letter is the least member of the first word that is not empty. Assumes nothing.
use mathlib.Core.Path.{sym, ap, ◌∙◌, subst}
use native.Mathlib.Omega.{arith}
use Rattle.letters.specs.LetterSet.{code_at, LeastLetter}
use Rattle.letters.proofs.Sets.{least_of, low_word, middle_word, high_word, high_some}
use Rattle.letters.proofs.LetterSet.lowest.Goals as goal

pub returns-then-self-ne0 : goal.returns-then-self-ne0
returns-then-self-ne0 c =
    let s = c.args.self in
    let u = c.lowest in
    subst (LeastLetter s) (ap code_at (omega arith) ∙ sym c.code_at.ensures) (least_of s 0 s.low (low_word s (omega arith)) u.result u.ensures.0 u.ensures.1)

pub returns-then-self-ne0-2 : goal.returns-then-self-ne0-2
returns-then-self-ne0-2 c =
    let s = c.args.self in
    let u = c.lowest-then-self-ne0-2 in
    subst (LeastLetter s) (sym c.code_at-then-self-ne0-2.ensures) (least_of s 64 s.middle (middle_word s c.if-self-ne0.false (omega arith)) u.result u.ensures.0 u.ensures.1)

pub lowest-requires-else-self-ne0-2 : goal.lowest-requires-else-self-ne0-2
lowest-requires-else-self-ne0-2 c = high_some c.args.self c.if-self-ne0.false c.if-self-ne0-2.false c.requires

pub returns-else-self-ne0-2 : goal.returns-else-self-ne0-2
returns-else-self-ne0-2 c =
    let s = c.args.self in
    let u = c.lowest-else-self-ne0-2 in
    subst (LeastLetter s) (sym c.code_at-else-self-ne0-2.ensures)
    (least_of s 128 s.high (high_word s c.if-self-ne0.false c.if-self-ne0-2.false (omega arith)) u.result u.ensures.0 u.ensures.1)
