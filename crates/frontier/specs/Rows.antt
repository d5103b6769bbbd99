-- Rows over the states: a set of possible states, and a count and a credit for each.
use Rattle.std.specs.Prelude.{◌≡◌, ℕ, suc, ◌+◌, ◌*◌, ◌%◌, ◌^◌, min, true, ◌&&◌, List, bit_and, nat_lt, slice_index, Option, None, Some}
use Rattle.std.specs.Borrow.{Bor}
use Rattle.basics.specs.Folds.{sum_if, most_if}
use Rattle.bits.specs.Bits.{has_bit}
use Rattle.frontier.specs.declared.Links.{Links}
use Rattle.frontier.specs.declared.Row.{Row}
use Rattle.frontier.specs.declared.Sum.{Sum}

-- over the members of a set: the sum of the counts, 2 ^ 63 where it is more, and the greatest credit
abbrev pub count_of : ℕ → (ℕ → ℕ) → ℕ
count_of m row = min (sum_if (has_bit m) row 61) (2 ^ 63)

abbrev pub most_of : ℕ → (ℕ → ℕ) → ℕ
most_of m row = most_if (has_bit m) row 61

-- before any letter: state 0 alone, with one reading that has earned nothing
pub record Begun (row : Row) : Type 0 where
  pub alone : row.active ≡ 1
  pub one : slice_index row.counts 0 ≡ 1
  pub nothing : slice_index row.most 0 ≡ 0

-- ---- one letter on

-- the possible states that position i may follow
abbrev pub arriving : List ℕ → ℕ → ℕ → ℕ
arriving before active i = bit_and (slice_index before i) active

-- how many links lead from state u to position i, where it may follow, by the table of those beyond the first
abbrev pub links_to : List ℕ → ℕ → ℕ → ℕ
links_to more u i = suc (slice_index more (61 * u + i))

-- the same where there may be no table, and then there is one
abbrev pub weight : Option (Bor (List ℕ)) → ℕ → ℕ → ℕ
weight None u i = 1
weight (Some more) u i = links_to more.now u i

-- the counts of a row, each once for each link to position i
abbrev pub weighted : Option (Bor (List ℕ)) → ℕ → (ℕ → ℕ) → ℕ → ℕ
weighted more i row u = weight more u i * row u

-- what the members of a set give position i: the sum of their counts by the links, and the greatest credit
pub record Gives (links : Links) (row : Row) (members i : ℕ) (sum : Sum) : Type 0 where
  pub counted : sum.count ≡ count_of members (weighted links.more i (slice_index row.counts))
  pub marked : sum.most ≡ most_of members (slice_index row.most)

-- a set that gives each position the same, where it has members
abbrev pub Known : Links → Row → ℕ → Sum → Type 0
Known links row members sum = (members ≡ 0 → ⊥) → (i : ℕ) → Gives links row members i sum

-- the row after a letter that the positions of `holds` hold. Each position gets the counts by the links, and the greatest credit with its
-- own, which may wrap.
pub record Stepped (links : Links) (holds : ℕ) (row next : Row) : Type 0 where
  pub states : (i : ℕ) → has_bit next.active i ≡ (has_bit holds i && nat_lt 0 (arriving links.before.now row.active i))
  pub counted : (i : ℕ) → has_bit next.active i ≡ true
      → slice_index next.counts i ≡ count_of (arriving links.before.now row.active i) (weighted links.more i (slice_index row.counts))
  pub marked : (i : ℕ) → has_bit next.active i ≡ true
      → slice_index next.most i ≡ (most_of (arriving links.before.now row.active i) (slice_index row.most) + slice_index links.credits.now i) % 2 ^ 32
