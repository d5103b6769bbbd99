-- In a trim graph what is alive can be finished: after letters that leave some state possible others follow, up to the end of a
-- reading. Assumes nothing.
use mathlib.Core.Path.{◌≡◌, sym, ap, ◌∙◌, subst}
use mathlib.Core.Logic.{⊎_elim}
use mathlib.Core.Bool.{true, false}
use mathlib.Core.List.{List, ◌++◌}
use Prim.Native.Nat.{ℕ, ◌≤◌}
use native.Mathlib.Omega.{arith}
use Rattle.basics.specs.Lists.{end_of}
use Rattle.basics.proofs.Tests.{le_or_lt}
use Rattle.basics.proofs.Lists.{end_append}
use Rattle.alphabet.specs.Alphabet.{all_letters}
use Rattle.graph.specs.Graph.{Graph}
use Rattle.graph.specs.Readings.{readings}
use Rattle.graph.specs.Taken.{dead}
use Rattle.graph.specs.Trim.{Trim}
use Rattle.graph.proofs.Walks.{position_is, Walk, walk_append, plain, path_plain, walk_plain, goes_reads}
use Rattle.graph.proofs.Counting.{reading_counts}
use Rattle.graph.proofs.Taken.{live_walk}
use Rattle.verdict.specs.Evidence.{shown}
use Rattle.verdict.proofs.Pairs.{walk_letters}
use Rattle.verdict.proofs.Routes.{route_walk}

module _ (g : Graph) (trim : Trim g) (some : 1 ≤ g.positions) where
  -- a walk from a state to an end: from before any letter, over position 1
  record ToEnd (u : ℕ) : Type 0 where
    text : List ℕ
    way : List ℕ
    walk : Walk g u text way
    ends : g.last (end_of u way) ≡ true

  from_position : (q : ℕ) → 1 ≤ q → q ≤ g.positions → ToEnd q
  from_position q l h =
      let u = trim.useful q (position_is g q l h) in
      record { text = shown g u.way_out u.way_out; way = u.way_out; walk = route_walk g trim q u.way_out u.goes_out; ends = u.ends }

  to_end : (u : ℕ) → u ≤ g.positions → ToEnd u
  to_end u h = ⊎_elim (λ l. from_position u l h) (λ l. subst ToEnd (omega arith) from_none) (le_or_lt 1 u)
    where
      from_none : ToEnd 0
      from_none =
          let w = trim.useful 1 (position_is g 1 (omega arith) some) in
          let c = w.way_in in
          let o = from_position 1 (omega arith) some in
          record {
            text = shown g c c ++ o.text;
            way = c ++ o.way;
            walk = walk_append g 0 (shown g c c) o.text c o.way (route_walk g trim 0 c w.goes_in) (subst (λ (v : ℕ). Walk g v o.text o.way) (sym w.comes) o.walk);
            ends = ap g.last (end_append 0 c o.way ∙ ap (λ (v : ℕ). end_of v o.way) w.comes) ∙ o.ends;
          }

  pub live_goes_on : (s : List ℕ) → dead g s ≡ false → (t : List ℕ) × (all_letters t ≡ true) × (1 ≤ readings g (s ++ t))
  live_goes_on s e =
      let w = live_walk g s e in
      let o = to_end (end_of 0 w.0) w.2 in
      let r = w.0 ++ o.way in
      let whole = walk_plain g 0 (s ++ o.text) r (walk_append g 0 s o.text w.0 o.way w.1 o.walk) in
      let ends = ap (λ (c : List ℕ). g.last (end_of 0 c)) (path_plain r) ∙ ap g.last (end_append 0 w.0 o.way) ∙ o.ends in
      (o.text, walk_letters g trim.letters (end_of 0 w.0) o.text o.way o.walk, reading_counts g (s ++ o.text) (plain r) (goes_reads g 0 (s ++ o.text) (plain r) (whole, ends)))
