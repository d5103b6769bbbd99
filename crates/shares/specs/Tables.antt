-- What tables say of a graph: the rows of what may come next, the rows of where two links or more lead, and the rows of what
-- shares a letter.
use Rattle.std.specs.Prelude.{◌≡◌, Bool, true, false, ◌&&◌, List, ℕ, ◌+◌, ◌*◌, ◌≤◌, get_or}
use Rattle.bits.specs.Bits.{has_bit}
use Rattle.letters.specs.LetterSet.{has_letter}
use Rattle.letters.specs.declared.LetterSet.{LetterSet}
use Rattle.graph.specs.Graph.{some, Graph, is_position, next, doubled}
use Rattle.letters.specs.LetterSet.{set_at}
use Rattle.verdict.specs.Pairs.{shares}
use Rattle.nodes.specs.declared.Steps.{Steps}
use Rattle.nodes.specs.Nodes.{goes}

pub record Rows (g : Graph) (F : List ℕ) : Type 0 where
  pub few : g.positions ≤ 60
  pub comes : (u i : ℕ) → goes F u i ≡ true → (is_position g i ≡ true) × (next g u i ≡ true)
  pub goes_on : (u i : ℕ) → is_position g i ≡ true → next g u i ≡ true → goes F u i ≡ true

-- bit i of row u says that two links or more lead from state u to position i
pub record Doubles (g : Graph) (D : List ℕ) : Type 0 where
  pub several : (u i : ℕ) → u ≤ g.positions → is_position g i ≡ true → has_bit (get_or D u 0) i ≡ doubled g u i

pub record Shares (g : Graph) (S : List ℕ) : Type 0 where
  pub share : (a b : ℕ) → is_position g a ≡ true → is_position g b ≡ true → has_bit (get_or S a 0) b ≡ shares g a b
  pub own : (a : ℕ) → is_position g a ≡ true → shares g a a ≡ true

-- the tables of a search are those of g
pub record Tables (g : Graph) (t : Steps) : Type 0 where
  pub rows : Rows g t.follow
  pub doubles : Doubles g t.doubles
  pub shares : Shares g t.shares

-- ---- the links of a built pattern

-- no row has a number past 60
abbrev pub Within : List ℕ → Type 0
Within F = (u i : ℕ) → has_bit (get_or F u 0) i ≡ true → i ≤ 60

-- do two links or more lead from u to i, by the rows of what may come next and the table of links beyond the first
abbrev pub is_doubled : List ℕ → List ℕ → ℕ → ℕ → Bool
is_doubled F more u i = has_bit (get_or F u 0) i && some (get_or more (61 * u + i) 0)

abbrev pub NoneDoubled : List ℕ → List ℕ → Type 0
NoneDoubled F more = (u i : ℕ) → is_doubled F more u i ≡ false

-- ---- the sets of letters of positions

-- a code that the sets of two positions both hold
abbrev pub held : List LetterSet → ℕ → ℕ → ℕ → Bool
held sets a b c = has_letter (set_at sets a) c && has_letter (set_at sets b) c
