-- The set is the one that is known, or its first count has stopped, or it is new. Assumes nothing.
use Rattle.std.proofs.Common.{◌≡◌, ℕ, ◌+◌, ◌^◌, ◌<◌, ◌≤◌, true, slice_index, sym, ◌∙◌, subst, arith}
use Rattle.std.specs.Prelude.{List, Option, None, Some}
use Rattle.std.specs.Borrow.{Bor}
use Rattle.basics.specs.Folds.{sum_if}
use Rattle.basics.proofs.Folds.{fold_has}
use Rattle.bits.specs.Bits.{has_bit}
use Rattle.bits.proofs.Laws.{member_below}
use Rattle.frontier.specs.Rows.{Gives, count_of, weighted}
use Rattle.frontier.proofs.Row.arrived.Goals as goal

pub returns-then-members-known : goal.returns-then-members-known
returns-then-members-known c =
    let a = c.args in
    let same = c.if-members-known.true in
    let known = c.requires.3 in
    (subst (λ (m : ℕ). Gives a.links.now a.self.now m a.i a.known.sum) (sym same) (known (λ none. c.requires.0 (same ∙ none)) a.i), known)

pub bounds-self-lowest : goal.bounds-self-lowest
bounds-self-lowest c = member_below 61 c.args.members c.lowest.result c.requires.1 c.lowest.ensures.1.here

-- a count is not less by links
by_links : (more : Option (Bor (List ℕ))) (i : ℕ) (row : ℕ → ℕ) (u : ℕ) → row u ≤ weighted more i row u
by_links None i row u = omega arith
by_links (Some more) i row u = omega arith

-- one that has stopped stops the sum
stopped : (more : Option (Bor (List ℕ))) (i members : ℕ) (row : ℕ → ℕ) (u : ℕ) → u < 61 → has_bit members u ≡ true → row u ≡ 2 ^ 63 → 2 ^ 63 ≡ count_of members (weighted more i row)
stopped more i members row u low here full =
    let all : 2 ^ 63 ≤ sum_if (has_bit members) (weighted more i row) 61 =
    fold_has 0 ◌+◌ (λ (n : ℕ). 2 ^ 63 ≤ n) (λ a b l. omega (arith, l)) (λ a b l. omega (arith, l)) (has_bit members) (weighted more i row) 61 u low here (omega (arith, full, by_links more i row u)) in
    omega (arith, all)

pub returns-then-stopped : goal.returns-then-stopped
returns-then-stopped c =
    let a = c.args in
    let least = c.lowest.ensures.1 in
    let gives : (i : ℕ) → Gives a.links.now a.self.now a.members i record { count = 2 ^ 63; most = c.greatest.result } =
    λ i. record { counted = stopped a.links.now.more i a.members (slice_index a.self.now.counts) c.lowest.result (member_below 61 a.members c.lowest.result c.requires.1 least.here) least.here c.if-stopped.true; marked = c.greatest.ensures } in
    (gives a.i, λ some. gives)
