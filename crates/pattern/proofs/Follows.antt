-- What may follow in a part, by what may follow in the parts that it is made of: a sum of links is some where one of them is.
-- Assumes nothing.
use mathlib.Core.Path.{◌≡◌, ap, ◌∙◌}
use mathlib.Core.Bool.{Bool, ◌&&◌, ◌||◌}
use Prim.Native.Nat.{ℕ, ◌+◌}
use Rattle.std.specs.Prelude.{if◌then◌else◌}
use Rattle.graph.specs.Graph.{some}
use Rattle.graph.proofs.Links.{some_plus, some_if}
use Rattle.pattern.specs.Parts.{Repeat, loops, Part, either, joined, again}
use Rattle.pattern.specs.Positions.{positions, is_first, is_last, links, follows}

-- a sum with one more on a condition
some_more : (a : ℕ) (t : Bool) → some (a + (if t then 1 else 0)) ≡ (some a || t)
some_more a t = some_plus a (if t then 1 else 0) ∙ ap (λ (b : Bool). some a || b) (some_if t)

module _ (n : ℕ) (p q : Part) (x y : ℕ) where
  pub follows_either : follows n (either p q) x y ≡ (follows n p x y || follows (n + positions p) q x y)
  follows_either = some_plus (links n p x y) (links (n + positions p) q x y)

  pub follows_joined : follows n (joined p q) x y ≡ (follows n p x y || (follows (n + positions p) q x y || (is_last n p x && is_first (n + positions p) q y)))
  follows_joined =
      let over = is_last n p x && is_first (n + positions p) q y in
      some_plus (links n p x y) (links (n + positions p) q x y + (if over then 1 else 0))
      ∙ ap (λ (b : Bool). follows n p x y || b) (some_more (links (n + positions p) q x y) over)

pub follows_again : (k : Repeat) (n : ℕ) (p : Part) (x y : ℕ) → follows n (again k p) x y ≡ (follows n p x y || (loops k && (is_last n p x && is_first n p y)))
follows_again k n p x y = some_more (links n p x y) (loops k && (is_last n p x && is_first n p y))
