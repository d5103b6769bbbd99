-- What vetting a built pattern asks of it, and gives.
use Rattle.std.specs.Prelude.{◌≡◌, false, List, ℕ}
use Rattle.graph.specs.declared.Built.{Built}
use Rattle.graph.specs.Graph.{Graph, Bounded, SingleLinks}
use Rattle.graph.specs.Built.{graph_of_built}
use Rattle.graph.specs.Trim.{Trim}
use Rattle.verdict.specs.Answers.{Vets}
use Rattle.vetting.specs.declared.Verdict.{Verdict}
use Rattle.vetting.specs.declared.Verdict.TheVariants.{Single, Steady, Runaway}
use Rattle.vetting.specs.declared.Vetted.{Vetted}

-- what vetting asks of a built pattern and the table of its links beyond the first
pub record Vettable (b : Built) (more : List ℕ) : Type 0 where
  pub bounded : Bounded (graph_of_built b more)
  pub trim : Trim (graph_of_built b more)
  pub single : b.doubled ≡ false → SingleLinks (graph_of_built b more)

-- the number of a verdict in the rules
abbrev pub number_of : Verdict → ℕ
number_of Single = 0
number_of (Steady l) = 1
number_of (Runaway l m n) = 2

-- the lengths of the texts that show it, 0 for each that there is not
abbrev pub first_of : Verdict → ℕ
first_of Single = 0
first_of (Steady l) = l
first_of (Runaway l m n) = l

abbrev pub second_of : Verdict → ℕ
second_of Single = 0
second_of (Steady l) = 0
second_of (Runaway l m n) = m

abbrev pub third_of : Verdict → ℕ
third_of Single = 0
third_of (Steady l) = 0
third_of (Runaway l m n) = n

-- the verdict is that of the rules, with its texts; e and e' are the evidence before and after
abbrev pub Reported : Graph → List ℕ → List ℕ → Verdict → Type 0
Reported g e e' v = Vets g e e' (number_of v) (first_of v) (second_of v) (third_of v)

-- [Vetting] the number of positions, and the verdict with its texts
pub record Judged (g : Graph) (e e' : List ℕ) (r : Vetted) : Type 0 where
  pub positions : r.positions ≡ g.positions
  pub reports : Reported g e e' r.verdict
