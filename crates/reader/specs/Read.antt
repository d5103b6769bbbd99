-- What reading a pattern gives: for every input its refusal, or the graph that it is built into with the links beyond the first.
use Rattle.std.specs.Prelude.{◌≡◌, false, List, ℕ, ◌≤◌, Result, IfOk}
use Rattle.letters.specs.declared.LetterSet.{LetterSet}
use Rattle.graph.specs.Graph.{Bounded, SingleLinks}
use Rattle.graph.specs.Built.{graph_of_built}
use Rattle.graph.specs.declared.Built.{Built}
use Rattle.pattern.specs.Parts.{Part}
use Rattle.pattern.specs.Positions.{positions, links_of, graph_of, pattern_graph}
use Rattle.pattern.specs.Refusals.{pattern_refusal, refusal_of}
use Rattle.pattern.specs.declared.Refusal.{Refusal}
use Rattle.parsed.specs.declared.Parsed.{Parsed}
use Rattle.parsed.specs.Parsed.{shape_of}
use Rattle.parts.specs.Parsing.{Kept}

-- the pattern s is built, with its links beyond the first in `more`
pub record BuiltFrom (s more : List ℕ) (b : Built) : Type 0 where
  pub graph : graph_of_built b more ≡ pattern_graph s
  pub bounded : Bounded (graph_of_built b more)
  pub single : b.doubled ≡ false → SingleLinks (graph_of_built b more)

-- the pattern's refusal, and where there is none the pattern, built
pub record Reads (s more : List ℕ) (r : Result Built Refusal) : Type 0 where
  pub refusal : refusal_of r ≡ pattern_refusal s
  pub built : IfOk r (BuiltFrom s more)

-- of the rows and the tables of any part of up to 60 positions and up to 256 links from one state to another, its graph is built
pub record Builds (p : Parsed) (rows : List ℕ) (sets : List LetterSet) (credits : List ℕ) (r : Built) : Type 0 where
  pub graph : (x : Part) (more : List ℕ) → Kept (shape_of x) rows more sets credits p → positions x ≤ 60 → ((u i : ℕ) → links_of x u i ≤ 256) → graph_of_built r more ≡ graph_of x
  pub doubled : r.doubled ≡ p.doubled
