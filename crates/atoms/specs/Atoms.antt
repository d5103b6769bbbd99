-- What reading a lettered atom gives.
use Rattle.std.specs.Prelude.{◌≡◌, not, List, ℕ, ◌≤◌, Option}
use Rattle.std.specs.Borrow.{Bor}
use Rattle.alphabet.specs.Alphabet.{some_letter}
use Rattle.letters.specs.LetterSet.{has_letter}
use Rattle.graph.specs.Built.{lowered}
use Rattle.pattern.specs.Parts.{Atom, holds, letter}
use Rattle.pattern.specs.Grammar.{Credit, credit, no_credit, Read, read, broken}
use Rattle.pattern.specs.Refusals.{some_reversed}
use Rattle.places.specs.Reads.{Reads}
use Rattle.atoms.specs.declared.Lettered.{Lettered}

-- a credit of the rules, C: the number is raised by 9
pub record IsCredit (C : Credit) (raised : ℕ) (rest : List ℕ) : Type 0 where
  pub same : C ≡ credit (lowered 1 raised) rest
  pub small : raised ≤ 18

abbrev pub ReadsCredit : Credit → Option (ℕ × Bor (List ℕ)) → Type 0
ReadsCredit C r = Reads r (C ≡ no_credit) (IsCredit C)

-- the result has what an atom of the rules has
pub record IsAtom (what : Atom) (l : Lettered) : Type 0 where
  pub has : (c : ℕ) → has_letter l.set c ≡ holds what c
  pub hollow : l.hollow ≡ not (some_letter (holds what))
  pub turned : l.reversed ≡ some_reversed what.items
  pub credit : lowered 1 l.credit ≡ what.credit
  pub small : l.credit ≤ 18

-- the result stands for an atom that the rules read, R
pub record IsRead (R : Read) (l : Lettered) (rest : List ℕ) : Type 0 where
  pub what : Atom
  pub same : R ≡ read (letter what) rest
  pub atom : IsAtom what l

abbrev pub ReadsAtom : Read → Option (Lettered × Bor (List ℕ)) → Type 0
ReadsAtom R r = Reads r (R ≡ broken) (IsRead R)
