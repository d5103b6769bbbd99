-- What the rows say of the answer. It is said of every way that the answer can go on: from the row alone the count and the mark of
-- the whole answer follow, and which states will be possible.
use Rattle.std.specs.Prelude.{◌≡◌, true, List, ◌++◌, ℕ, ◌*◌, ◌^◌, ◌≤◌, min, eqb, ℤ, pos, nat_abs, length, get_or, slice_index, if◌then◌else◌}
use Rattle.basics.specs.Folds.{fold_if, any_if}
use Rattle.bits.specs.Bits.{has_bit}
use Rattle.graph.specs.Graph.{Graph, Bounded}
use Rattle.graph.specs.Built.{lowered, credit_in}
use Rattle.graph.specs.Readings.{count_from, readings, Best, no_reading, better, added, best_from, mark}
use Rattle.graph.specs.Taken.{leads, possible, letters_taken}
use Rattle.frontier.specs.Rows.{count_of, weight}
use Rattle.frontier.specs.declared.Links.{Links}
use Rattle.frontier.specs.declared.Row.{Row}

-- over the members of a set: the best
abbrev pub best_of : ℕ → (ℕ → Best) → Best
best_of m row = fold_if no_reading better (has_bit m) row 61

-- after the letters s, in the graph g. The credits of the row are sums of as many credits, each raised by 9.
pub record After (g : Graph) (s : List ℕ) (row : Row) : Type 0 where
  pub counted : (t : List ℕ) → count_of row.active (λ u. slice_index row.counts u * count_from g u t) ≡ min (readings g (s ++ t)) (2 ^ 63)
  pub marked : (t : List ℕ) → best_of row.active (λ u. added (lowered (length s) (slice_index row.most u)) (best_from g u t)) ≡ best_from g 0 (s ++ t)
  pub low : (u : ℕ) → has_bit row.active u ≡ true → slice_index row.most u ≤ 18 * length s
  pub reached : (t : List ℕ) (v : ℕ) → any_if (has_bit row.active) (λ u. leads g u t v) 61 ≡ possible g (s ++ t) v

-- how many links lead from state u to position i: none where u is not before it
abbrev pub links_of_tables : Links → ℕ → ℕ → ℕ
links_of_tables links u i = if has_bit (get_or links.before.now i 0) u then weight links.more u i else 0

-- the graph that the tables show: for each letter the positions that hold it, for each position the states before it, and where
-- there can be several links, for each state and position those beyond the first
abbrev pub graph_of_tables : ℕ → List ℕ → Links → ℕ → Graph
graph_of_tables positions holders links lasts = record {
  positions = positions;
  links = links_of_tables links;
  last = λ u. has_bit lasts u;
  holds = λ i b. has_bit (get_or holders b 0) i;
  credit = credit_in links.credits.now;
}

-- [Counts] [Marks] the number of readings, 2 ^ 63 where it is that or more, and the mark, at most 9 a letter on either side of 0
pub record Answered (g : Graph) (s : List ℕ) (count : ℕ) (given : ℤ) : Type 0 where
  pub counts : count ≡ min (readings g s) (2 ^ 63)
  pub marks : given ≡ mark g s
  pub small : nat_abs given ≤ 9 * length s

-- the mark by the count of readings and the greatest of their sums, which was raised by 9 for each letter
abbrev pub mark_of_sum : ℕ → ℕ → ℕ → ℤ
mark_of_sum count most letters = if eqb count 0 then pos 0 else lowered letters most

-- what the tables' rows come to, from which the mark follows, and which is no more than 18 for each letter
pub record Summed (g : Graph) (s : List ℕ) (count most : ℕ) : Type 0 where
  pub answered : Answered g s count (mark_of_sum count most (length s))
  pub low : most ≤ 18 * length s

-- in the graph of the tables, with how many letters were taken: how many positions it has plays no part, as long as it is within
-- the bounds
pub record TablesSummed (holders : List ℕ) (links : Links) (lasts : ℕ) (s : List ℕ) (count most taken : ℕ) : Type 0 where
  pub summed : (positions : ℕ) → let g = graph_of_tables positions holders links lasts in Bounded g → Summed g s count most × (taken ≡ letters_taken g s)
