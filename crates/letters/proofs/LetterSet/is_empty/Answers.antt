-- A set is empty where its words are, and a word that is not empty has a least member. Assumes nothing.
use mathlib.Core.Logic.{⊎_elim}
use native.Mathlib.Omega.{arith}
use borrow.Author.Tests.{eqb-true, eqb-false}
use Rattle.letters.proofs.Sets.{zero_none, some_of, low_word, middle_word, high_word}
use Rattle.letters.proofs.LetterSet.is_empty.Goals as goal

pub returns-then-self-eq0-2 : goal.returns-then-self-eq0-2
returns-then-self-eq0-2 c =
    let s = c.args.self in
    let (z, y) = c.if-self-eq0-2.true in (
      λ e. zero_none s z y (eqb-true s.high 0 e),
      λ e. some_of s 128 s.high (high_word s z y (omega arith)) (omega (arith, eqb-false s.high 0 e)),
    )

pub returns-else-self-eq0-2 : goal.returns-else-self-eq0-2
returns-else-self-eq0-2 c =
    let s = c.args.self in (
      λ e k. cc,
      λ e.
          ⊎_elim (λ p. some_of s 64 s.middle (middle_word s p.0 (omega arith)) (omega (arith, p.1))) (λ p. some_of s 0 s.low (low_word s (omega arith)) (omega (arith, p)))
          c.if-self-eq0-2.either,
    )
