-- The row says at every letter what it is to say. Assumes nothing.
use mathlib.Core.Path.{◌≡◌}
use mathlib.Core.Bool.{false}
use mathlib.Core.List.{List}
use Prim.Native.Nat.{ℕ, ◌<◌}
use lib.ListN.{take}
use Rattle.graph.specs.Graph.{Bounded}
use Rattle.graph.specs.Taken.{dead}
use Rattle.frontier.specs.declared.Links.{Links}
use Rattle.frontier.specs.declared.Row.{Row}
use Rattle.marks.specs.Answers.{After, graph_of_tables}
use Rattle.marks.proofs.run.Given as goal

-- after k letters
pub record Running (answer holders : List ℕ) (links : Links) (lasts : ℕ) (row : Row) (k taken : ℕ) : Type 0 where
  pub all_taken : taken ≡ k
  pub after : (positions : ℕ) → let g = graph_of_tables positions holders links lasts in Bounded g → After g (take k answer) row
  pub alive : (positions : ℕ) → let g = graph_of_tables positions holders links lasts in Bounded g → (j : ℕ) → j < k → dead g (take j answer) ≡ false

abbrev pub invariant-loop-letter : goal.invariant-loop-letter
invariant-loop-letter l = Running l.answer l.holders l.links l.lasts l.row l.letter-index l.taken
