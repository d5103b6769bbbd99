-- Letters taken: after letters that leave no state possible no reading goes on, and letters that leave one are a walk. Assumes nothing.
use mathlib.Core.Path.{◌≡◌, refl, sym, ap, ◌∙◌, subst}
use mathlib.Core.Logic.{⊎_elim}
use mathlib.Core.Bool.{true, false, not, true≢false}
use mathlib.Core.List.{List, [], ◌∷◌, ◌++◌}
use Prim.Native.Nat.{ℕ, suc, ◌≤◌, ◌<◌, zero-le}
use native.Mathlib.Omega.{arith}
use lib.ListN.{length, take, drop, take-append-drop}
use lib.Seq.{take-append_seam}
use borrow.Author.Tests.{eqb-true, eq-eqb, not-false}
use Rattle.basics.specs.Lists.{end_of}
use Rattle.basics.proofs.Tests.{le_or_lt}
use Rattle.basics.proofs.Folds.{FirstBelow, first_below, first_is, any_true, any_found}
use Rattle.graph.specs.Graph.{Graph, step}
use Rattle.graph.specs.Readings.{path, readings}
use Rattle.graph.specs.Taken.{leads, possible, dead, letters_taken}
use Rattle.graph.proofs.Walks.{position_of, step_parts, Walk, walk_take, reads_goes}
use Rattle.graph.proofs.Counting.{count_reading}

module _ (g : Graph) where
  -- ---- the states to which letters lead

  leads_state : (u : ℕ) (s : List ℕ) (v : ℕ) → u ≤ g.positions → leads g u s v ≡ true → v ≤ g.positions
  leads_state u [] v l e = subst (λ (x : ℕ). x ≤ g.positions) (eqb-true u v e) l
  leads_state u (b ∷ s) v l e =
      let f = any_found (step g u b) (λ i. leads g i s v) (suc g.positions) e in
      leads_state f.i s v (omega (arith, f.under)) f.holds

  pub leads_walk : (u : ℕ) (s : List ℕ) (v : ℕ) → leads g u s v ≡ true → (r : List ℕ) × Walk g u s r × (end_of u r ≡ v)
  leads_walk u [] v e = ([], tt, eqb-true u v e)
  leads_walk u (b ∷ s) v e =
      let f = any_found (step g u b) (λ i. leads g i s v) (suc g.positions) e in
      let w = leads_walk f.i s v f.holds in
      (f.i ∷ w.0, (f.member, w.1), w.2)

  -- and a walk's letters lead to its end
  pub walk_leads : (u : ℕ) (s r : List ℕ) → Walk g u s r → leads g u s (end_of u r) ≡ true
  walk_leads u [] [] h = eq-eqb u u refl
  walk_leads u [] (i ∷ r) h = absurd h
  walk_leads u (b ∷ s) [] h = absurd h
  walk_leads u (b ∷ s) (i ∷ r) h =
      let low = (position_of g i (step_parts g u b i h.0).0).1 in
      any_true (step g u b) (λ j. leads g j s (end_of i r)) (suc g.positions) i (omega arith) h.0 (walk_leads i s r h.1)

  possible_state : (s : List ℕ) (v : ℕ) → possible g s v ≡ true → v ≤ g.positions
  possible_state s v = leads_state 0 s v zero-le

  -- ---- no state is possible, or some state is

  pub possible_live : (s : List ℕ) (v : ℕ) → possible g s v ≡ true → dead g s ≡ false
  possible_live s v e = let l = possible_state s v e in ap not (any_true (possible g s) (λ x. true) (suc g.positions) v (omega arith) e refl)

  pub live_walk : (s : List ℕ) → dead g s ≡ false → (r : List ℕ) × Walk g 0 s r × (end_of 0 r ≤ g.positions)
  live_walk s e =
      let f = any_found (possible g s) (λ v. true) (suc g.positions) (not-false _ e) in
      let w = leads_walk 0 s f.i f.member in
      (w.0, w.1, subst (λ (v : ℕ). v ≤ g.positions) (sym w.2) (possible_state s f.i f.member))

  pub dead_none : (s t : List ℕ) → dead g s ≡ true → readings g (s ++ t) ≡ 0
  dead_none s t e =
      ⊎_elim (λ l. omega arith)
      (λ l.
      let r = count_reading g (s ++ t) l in
      let k = length s in
      let w = walk_take g 0 k (s ++ t) (path r.0) (reads_goes g 0 (s ++ t) r.0 r.1).0.0 in
      let v = walk_leads 0 s (take k (path r.0)) (subst (λ (x : List ℕ). Walk g 0 x (take k (path r.0))) (take-append_seam s t) w) in
      absurd (true≢false (sym e ∙ possible_live s (end_of 0 (take k (path r.0))) v)))
      (le_or_lt (readings g (s ++ t)) 0)

  -- ---- the number

  pub taken_first : (s : List ℕ) → FirstBelow (λ n. dead g (take n s)) (length s) (letters_taken g s)
  taken_first s = first_below (λ n. dead g (take n s)) (length s)

  pub taken_is : (s : List ℕ) (n : ℕ) → FirstBelow (λ k. dead g (take k s)) (length s) n → letters_taken g s ≡ n
  taken_is s n = first_is (λ k. dead g (take k s)) (length s) n

  -- where it is below the length of the answer, no reading begins so
  pub taken_over : (s t : List ℕ) → letters_taken g s < length s → readings g (take (letters_taken g s) s ++ t) ≡ 0
  taken_over s t l = dead_none (take (letters_taken g s) s) t ((taken_first s).here l)

  pub taken_whole : (s : List ℕ) → 1 ≤ readings g s → letters_taken g s ≡ length s
  taken_whole s some =
      let n = letters_taken g s in
      ⊎_elim (λ l. let w = (taken_first s).within in omega arith)
      (λ l. let z = taken_over s (drop n s) l in let e = ap (readings g) (take-append-drop n s) in absurd (omega arith)) (le_or_lt (length s) n)
