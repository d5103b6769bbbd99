-- Single, steady, runaway.
use Rattle.std.specs.Prelude.{Bool, ◌&&◌, ◌||◌, not, List, ℕ, suc, ◌*◌, eqb, get_or, if◌then◌else◌}
use Rattle.basics.specs.Folds.{any_if, list_if}
use Rattle.graph.specs.Graph.{Graph, is_position, doubled}
use Rattle.verdict.specs.Pairs.{Pair, pair, shares, some_pair, reached}

-- p² letters lead to every pair that any number of them leads to
abbrev pub reaches : Graph → Pair → ℕ → ℕ → Bool
reaches g t c d = reached g (g.positions * g.positions) t c d

-- two links or more lead from state v to position a, whose set holds a letter
abbrev pub two_links : Graph → ℕ → ℕ → Bool
two_links g v a = doubled g v a && shares g a a

-- two paths from state u over one text come to position a by different links: from u, or from a position where both are
abbrev pub by_links : Graph → ℕ → ℕ → Bool
by_links g u a = two_links g u a || any_if (is_position g) (λ v. reaches g (pair u u) v v && two_links g v a) (suc g.positions)

-- [Paths side by side] they have parted, and are at a and b: at different positions, or at one by different links
abbrev pub parted_at : Graph → ℕ → ℕ → ℕ → Bool
parted_at g u a b = (not (eqb a b) && reaches g (pair u u) a b) || (eqb a b && by_links g u a)

-- two paths from state u over one text part, and come from there to a pair that passes a test
abbrev pub parts_to : Graph → ℕ → (ℕ → ℕ → Bool) → Bool
parts_to g u goal = some_pair g (λ a b. parted_at g u a b && some_pair g (λ c d. reaches g (pair a b) c d && goal c d))

-- some answer has two readings: paths from before any letter part, and both can end (the pattern is ambiguous)
abbrev pub ambiguous : Graph → Bool
ambiguous g = parts_to g 0 (λ c d. g.last c && g.last d)

-- [Pivots] two paths from q part, and both come back to q after the same letters
abbrev pub is_pivot : Graph → ℕ → Bool
is_pivot g q = parts_to g q (λ c d. eqb c q && eqb d q)

-- [Pivots] all of them in rising order, and the first, 0 where there is none
abbrev pub pivots : Graph → List ℕ
pivots g = list_if (λ q. is_position g q && is_pivot g q) (suc g.positions)

abbrev pub first_pivot : Graph → ℕ
first_pivot g = get_or (pivots g) 0 0

-- [Verdicts] 2, runaway, where there is a pivot; else 1, steady, where some answer has two readings; else 0, single. In the field's
-- terms: exponentially ambiguous; ambiguous with at most polynomially many readings; unambiguous.
abbrev pub verdict : Graph → ℕ
verdict g =
    if not (eqb (first_pivot g) 0) then 2
    else if ambiguous g then 1
    else 0
