-- The tables of letters and of raised credits, which are filled from the left: entry i is position i's.
use Rattle.std.specs.Prelude.{◌≡◌, List, ◌∷◌, ℕ, ◌≤◌, get_or, take}
use Rattle.letters.specs.LetterSet.{has_letter, set_at}
use Rattle.letters.specs.declared.LetterSet.{LetterSet}
use Rattle.graph.specs.Built.{credit_in}
use Rattle.pattern.specs.Parts.{Atom, holds}
use Rattle.pattern.specs.Grammar.{no_atom}

-- the atom of position i, as it is stored: none for 0 and past 60
abbrev pub atom_of : List Atom → ℕ → Atom
atom_of al i = get_or (no_atom ∷ take 60 al) i no_atom

-- the tables have what the atoms al have
pub record Stored (al : List Atom) (sets : List LetterSet) (credits : List ℕ) : Type 0 where
  pub has : (i c : ℕ) → has_letter (set_at sets i) c ≡ holds (atom_of al i) c
  pub credit : (i : ℕ) → credit_in credits i ≡ (atom_of al i).credit
  pub small : (i : ℕ) → get_or credits i 9 ≤ 18
