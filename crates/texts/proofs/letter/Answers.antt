-- The set of both holds just what the two share, so its first letter is theirs. Assumes nothing.
use mathlib.Core.Path.{◌≡◌, sym, ap, ap₂, ◌∙◌}
use mathlib.Core.Bool.{true}
use Prim.Native.Nat.{ℕ}
use native.Mathlib.Omega.{arith}
use Rattle.basics.proofs.Tests.{and_parts}
use Rattle.alphabet.specs.Alphabet.{is_letter}
use Rattle.letters.specs.LetterSet.{has_letter, set_at}
use Rattle.letters.specs.Order.{first_letter}
use Rattle.letters.proofs.Sets.{only_letters, some_same}
use Rattle.nodes.specs.Nodes.{left_of, right_of}
use Rattle.nodes.proofs.Nodes.{numbered_sides}
use Rattle.shares.specs.Tables.{held}
use Rattle.texts.specs.Texts.{letter_at}
use Rattle.texts.proofs.letter.Goals as goal
use Rattle.texts.proofs.letter.Goals.{After-intersection}

pub bounds-sets-a : goal.bounds-sets-a
bounds-sets-a c = omega (arith, c.sides-a.ensures.0, (numbered_sides c.args.number c.from.result c.from.ensures).0, c.requires.1.left)

pub bounds-sets-b : goal.bounds-sets-b
bounds-sets-b c = omega (arith, c.sides-a.ensures.1, (numbered_sides c.args.number c.from.result c.from.ensures).1, c.requires.1.right)

-- the set of both has what the sets of the node's sides share
both_held : (c : After-intersection) (d : ℕ) → has_letter c.intersection.result d ≡ held c.args.sets.now (left_of c.args.number) (right_of c.args.number) d
both_held c d =
    let at = numbered_sides c.args.number c.from.result c.from.ensures in
    c.intersection.ensures d ∙ ap₂ (λ (i j : ℕ). held c.args.sets.now i j d) (c.sides-a.ensures.0 ∙ at.0) (c.sides-a.ensures.1 ∙ at.1)

pub first_of_letters-requires : goal.first_of_letters-requires
first_of_letters-requires c =
    let sets = c.args.sets.now in
    let a = left_of c.args.number in
    let b = right_of c.args.number in
    let both = both_held (goal.at.first_of_letters-requires c).After-intersection in
    let letters : (d : ℕ) → held sets a b d ≡ true → is_letter d ≡ true
    = λ d h. c.requires.0 a d (and_parts (has_letter (set_at sets a) d) (has_letter (set_at sets b) d) h).0 in
    (some_same c.intersection.result (held sets a b) (λ d. both d ∙ only_letters (held sets a b) letters d) c.requires.1.some, λ d h. letters d (sym (both d) ∙ h))

pub returns : goal.returns
unfolding letter_at
returns c = c.first_of_letters.ensures ∙ ap first_letter (λ i d. both_held (goal.at.returns c).After-intersection d i)
