-- A route through a graph is a walk over the text shown for it, at each position the letter shown of its set; and letters that lead to a
-- state lead there by a route. Assumes nothing.
use mathlib.Core.Path.{◌≡◌, refl, ap}
use mathlib.Core.Bool.{true}
use mathlib.Core.List.{List, [], ◌∷◌}
use Prim.Native.Nat.{ℕ, suc}
use lib.ListN.{length}
use Rattle.basics.specs.Lists.{end_of}
use Rattle.basics.proofs.Tests.{and_parts, and_of}
use Rattle.alphabet.specs.Alphabet.{lowest_letter}
use Rattle.alphabet.proofs.Alphabet.{lowest_letter_is, letter_some}
use Rattle.letters.proofs.Order.{first_letter_serves}
use Rattle.graph.specs.Graph.{Graph}
use Rattle.graph.specs.Taken.{leads}
use Rattle.graph.specs.Trim.{Trim, Route}
use Rattle.graph.proofs.Walks.{step_parts, step_of, Walk, walk_length}
use Rattle.graph.proofs.Taken.{leads_walk}
use Rattle.verdict.specs.Pairs.{both_hold, shares, letter_shown}
use Rattle.verdict.specs.Evidence.{shown}

pub shown_length : (g : Graph) (r : List ℕ) → length (shown g r r) ≡ length r
shown_length g [] = refl
shown_length g (i ∷ r) = ap suc (shown_length g r)

module _ (g : Graph) (trim : Trim g) where
  pub route_walk : (u : ℕ) (r : List ℕ) → Route g u r → Walk g u (shown g r r) r
  route_walk u [] h = tt
  route_walk u (i ∷ r) h =
      let c = lowest_letter_is (g.holds i) (trim.lettered i h.0) in
      let l = lowest_letter (g.holds i) in
      let share : shares g i i ≡ true = letter_some (both_hold g i i) l c.0 (and_of (g.holds i l) (g.holds i l) c.1 c.1) in
      let held = and_parts (g.holds i (letter_shown g i i)) (g.holds i (letter_shown g i i)) (first_letter_serves (both_hold g i i) share).1 in
      (step_of g u (letter_shown g i i) i h.0 h.1 held.0, route_walk i r h.2)

module _ (g : Graph) where
  walk_route : (u : ℕ) (s r : List ℕ) → Walk g u s r → Route g u r
  walk_route u [] [] h = tt
  walk_route u [] (i ∷ r) h = absurd h
  walk_route u (b ∷ s) [] h = absurd h
  walk_route u (b ∷ s) (i ∷ r) h = let p = step_parts g u b i h.0 in (p.0, p.1, walk_route i s r h.1)

  -- n letters lead from u to v by this route
  pub record Led (u v n : ℕ) : Type 0 where
    pub way : List ℕ
    pub goes : Route g u way
    pub comes : end_of u way ≡ v
    pub size : length way ≡ n

  pub led : (u : ℕ) (s : List ℕ) (v : ℕ) → leads g u s v ≡ true → Led u v (length s)
  led u s v h = let w = leads_walk g u s v h in record { way = w.0; goes = walk_route u s w.0 w.1; comes = w.2; size = walk_length g u s w.0 w.1 }
