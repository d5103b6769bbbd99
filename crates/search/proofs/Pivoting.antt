-- The searches for a pivot: a search from q for both paths back at q says whether q is one. Assumes nothing.
use mathlib.Core.Path.{◌≡◌, sym, ap, ◌∙◌}
use mathlib.Core.Bool.{true, false, ◌&&◌}
use mathlib.Core.List.{List}
use Prim.Native.Nat.{ℕ, ◌+◌, ◌≤◌, ◌<◌}
use native.Mathlib.Omega.{arith}
use borrow.Author.Tests.{eqb-true, eq-eqb}
use lib.Dec.{eqb}
use Rattle.basics.proofs.Tests.{same_test, by_equal}
use Rattle.bits.specs.Bits.{has_bit}
use Rattle.graph.specs.Graph.{Graph, is_position}
use Rattle.graph.proofs.Walks.{position_of, position_is}
use Rattle.verdict.specs.Verdict.{parts_to, is_pivot}
use Rattle.verdict.proofs.Pivots.{pivot_none, pivot_is_first}
use Rattle.search.specs.declared.Goal.{Goal}
use Rattle.search.specs.declared.Goal.TheVariants.{Parted}
use Rattle.search.specs.declared.Search.{Search}
use Rattle.std.specs.Prelude.{None, Some}
use Rattle.shares.specs.Tables.{Tables}
use Rattle.nodes.specs.declared.Steps.{Steps}
use Rattle.search.specs.Search.{Searching, Reached, IsFirstPivot}
use Rattle.search.proofs.Found.{both_in, reached_parts, none_parts, none_found}

-- both paths in the set m
abbrev pub only_at : ℕ → Goal
only_at m = Parted m

pub equal_swap : (a b : ℕ) → eqb a b ≡ eqb b a
equal_swap a b = same_test (eqb a b) (eqb b a) (λ e. eq-eqb b a (sym (eqb-true a b e))) (λ e. eq-eqb a b (sym (eqb-true b a e)))

module _ {g : Graph} {steps : Steps} (m q : ℕ) (tables : Tables g steps) (only : (j : ℕ) → has_bit m j ≡ eqb q j) (l : q ≤ g.positions) where
  abbrev same : is_pivot g q ≡ parts_to g q (both_in m)
  same =
      let at : (c : ℕ) → eqb c q ≡ has_bit m c = λ c. equal_swap c q ∙ sym (only c) in
      ap (parts_to g q) (λ i c d. at c i && at d i)

  pub pivot_found : {s : List ℕ} {i : ℕ} → Reached steps s (only_at m) q i → is_pivot g q ≡ true
  pivot_found r = same ∙ reached_parts tables r l

  pub no_pivot : {s : List ℕ} {w : Search} → Searching steps s (only_at m) q w → w.head ≡ w.tail → is_pivot g q ≡ false
  no_pivot h over = same ∙ none_parts tables m q l (none_found h over).unmet

-- no position below q is a pivot of a graph with these tables
abbrev pub NoneBelow : Steps → ℕ → ℕ → Type 0
NoneBelow steps positions q = (g : Graph) → Tables g steps → g.positions ≡ positions → (k : ℕ) → is_position g k ≡ true → k < q → is_pivot g k ≡ false

module _ {steps : Steps} {s : List ℕ} {positions q m : ℕ} (low : 1 ≤ q) (high : q ≤ positions) (only : (j : ℕ) → has_bit m j ≡ eqb q j) (none : NoneBelow steps positions q) where
  pub none_more : {w : Search} → Searching steps s (only_at m) q w → w.head ≡ w.tail → NoneBelow steps positions (q + 1)
  none_more h over g tables e k i l =
      by_equal k q (λ z. ap (is_pivot g) z ∙ no_pivot m q tables only (omega arith) h over) (λ d. none g tables e k i (omega arith))

  pub pivot_first : {i : ℕ} → Reached steps s (only_at m) q i → (g : Graph) → Tables g steps → g.positions ≡ positions → IsFirstPivot g (Some q)
  pivot_first r g tables e = (low, pivot_is_first g q (position_is g q low (omega arith)) (pivot_found m q tables only (omega arith) r) (λ k i l. none g tables e k i l))

pub none_first : {steps : Steps} {positions q : ℕ} → positions < q → NoneBelow steps positions q → (g : Graph) → Tables g steps → g.positions ≡ positions → IsFirstPivot g None
none_first l none g tables e = pivot_none g (λ k i. none g tables e k i (let p = position_of g k i in omega arith))
