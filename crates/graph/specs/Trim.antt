-- What a verdict asks of a graph beyond its definition: every set holds a letter and letters only, every position lies on a
-- short way from before any letter to an end (the automaton is trim), and where two links or more lead from one state to another
-- there is a way back. Patterns' graphs have it.
use Rattle.std.specs.Prelude.{◌≡◌, true, List, [], ◌∷◌, ℕ, ◌≤◌, length}
use Rattle.basics.specs.Lists.{end_of}
use Rattle.alphabet.specs.Alphabet.{is_letter, some_letter}
use Rattle.graph.specs.Graph.{Graph, is_position, next, doubled}

module _ (g : Graph) where
  -- from a state through positions, each of which may come next, whatever their letters
  abbrev pub Route : ℕ → List ℕ → Type 0
  Route u [] = Unit {0}
  Route u (i ∷ r) = (is_position g i ≡ true) × (next g u i ≡ true) × Route i r

  pub record Useful (q : ℕ) : Type 0 where
    pub way_in : List ℕ
    pub goes_in : Route 0 way_in
    pub comes : end_of 0 way_in ≡ q
    pub short_in : length way_in ≤ g.positions
    pub way_out : List ℕ
    pub goes_out : Route q way_out
    pub ends : g.last (end_of q way_out) ≡ true
    pub short_out : length way_out ≤ g.positions

  -- from position i a way leads back to u
  pub record Looped (u i : ℕ) : Type 0 where
    pub way : List ℕ
    pub goes : Route i way
    pub back : end_of i way ≡ u

  pub record Trim : Type 0 where
    pub letters : (i c : ℕ) → g.holds i c ≡ true → is_letter c ≡ true
    pub lettered : (i : ℕ) → is_position g i ≡ true → some_letter (g.holds i) ≡ true
    pub useful : (q : ℕ) → is_position g q ≡ true → Useful q
    pub looped : (u i : ℕ) → doubled g u i ≡ true → (is_position g u ≡ true) × (is_position g i ≡ true) × Looped u i
