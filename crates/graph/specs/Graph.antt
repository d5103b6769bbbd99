-- [States] The graph of a pattern's positions, which is all that readings and verdicts depend on: the pattern's position automaton.
-- A state is 0, before any letter, or a position, 1 to `positions`. It has no other pattern in view: any such graph will do.
use Rattle.std.specs.Prelude.{◌≡◌, Bool, true, false, ◌&&◌, ℕ, zero, suc, ◌≤◌, leb, ℤ, nat_abs}
use Rattle.alphabet.specs.Alphabet.{is_letter}

-- are there any; are there two or more
abbrev pub some : ℕ → Bool
some zero = false
some (suc n) = true

abbrev pub several : ℕ → Bool
several zero = false
several (suc zero) = false
several (suc (suc n)) = true

pub record Graph : Type 0 where
  -- how many positions there are
  pub positions : ℕ
  -- how many links lead from a state to a position: from 0 one to a first, from a position as many as let the other follow it
  pub links : ℕ → ℕ → ℕ
  -- may a reading end here: at 0 can the pattern be empty, at a position is it a last
  pub last : ℕ → Bool
  -- does a position's set hold a letter
  pub holds : ℕ → ℕ → Bool
  -- what a position earns; below zero, what it takes off
  pub credit : ℕ → ℤ

-- [Positions] 1 to p
abbrev pub is_position : Graph → ℕ → Bool
is_position g i = leb 1 i && leb i g.positions

-- [Follows] may a position come next at a state: does a link lead there
abbrev pub next : Graph → ℕ → ℕ → Bool
next g u i = some (g.links u i)

-- [Links] is there a choice between links
abbrev pub doubled : Graph → ℕ → ℕ → Bool
doubled g u i = several (g.links u i)

-- no two states have more than one link between them
abbrev pub SingleLinks : Graph → Type 0
SingleLinks g = (u i : ℕ) → doubled g u i ≡ false

-- position i may come next at state u, and its set holds the letter b
abbrev pub step : Graph → ℕ → ℕ → ℕ → Bool
step g u b i = is_position g i && (next g u i && g.holds i b)

-- what holds of every pattern's graph and bounds the numbers in a program over it: at most 60 positions, nothing beyond them,
-- letters only, credits from -9 to 9
pub record Bounded (g : Graph) : Type 0 where
  pub few : g.positions ≤ 60
  pub next_from : (u i : ℕ) → next g u i ≡ true → u ≤ g.positions
  pub next_to : (u i : ℕ) → next g u i ≡ true → is_position g i ≡ true
  pub last_from : (u : ℕ) → g.last u ≡ true → u ≤ g.positions
  pub holds_at : (i b : ℕ) → g.holds i b ≡ true → is_position g i ≡ true
  pub letters : (i b : ℕ) → g.holds i b ≡ true → is_letter b ≡ true
  pub credits : (i : ℕ) → nat_abs (g.credit i) ≤ 9
