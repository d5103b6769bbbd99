-- What a bounded graph is to a program over the built pattern that shows it: its sets are numbers below 2 ^ 61, as no member is
-- past the positions. Assumes nothing.
use mathlib.Core.Path.{◌≡◌, ◌∙◌}
use mathlib.Core.Bool.{true}
use mathlib.Core.List.{List}
use Prim.Native.Nat.{ℕ, ◌^◌, ◌≤◌, ◌<◌}
use native.Mathlib.Omega.{arith}
use lib.Dec.{leb}
use lib.ListN.{get_or}
use borrow.Author.Tests.{leb-true}
use Rattle.basics.proofs.Tests.{and_parts, by_test}
use Rattle.bits.specs.Bits.{has_bit}
use Rattle.bits.proofs.Laws.{lt_of_high}
use Rattle.graph.specs.Graph.{Bounded}
use Rattle.graph.specs.Built.{graph_of_built}
use Rattle.graph.specs.declared.Built.{Built}
use Rattle.graph.proofs.Links.{built_next}

-- a word whose members are all at most 60
pub below : (m : ℕ) → m < 2 ^ 64 → ((j : ℕ) → has_bit m j ≡ true → j ≤ 60) → m < 2 ^ 61
below m l h = lt_of_high 61 m l (λ j k. by_test (has_bit m j) (λ e. absurd (omega (arith, h j e))) (λ e. e))

pub row_below : (b : Built) (more : List ℕ) → Bounded (graph_of_built b more) → (u : ℕ) → get_or b.follow u 0 < 2 ^ 64 → get_or b.follow u 0 < 2 ^ 61
row_below b more h u l =
    below (get_or b.follow u 0) l
    (λ j e. let p = leb-true j b.positions (and_parts (leb 1 j) (leb j b.positions) (h.next_to u j (built_next b more u j ∙ e))).1 in let f = b.few in omega arith)
