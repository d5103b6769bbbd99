-- The mark: some reading earns it and none earns more. Assumes nothing.
use mathlib.Core.Path.{◌≡◌, refl, sym, ap, ◌∙◌, subst}
use mathlib.Core.Bool.{true, ◌&&◌, false≢true}
use mathlib.Core.List.{List, [], ◌∷◌}
use Prim.Native.Nat.{ℕ, suc, ◌≤◌}
use native.Mathlib.Omega.{arith}
use lib.Dec.{ltb}
use lib.IntN.{ℤ, pos, ◌+ℤ◌}
use lib.Signed.{◌≤ℤ◌}
use borrow.Author.Tests.{lt-ltb}
use Rattle.basics.proofs.Tests.{and_parts, and_of, if_yes, if_no, by_test}
use Rattle.basics.proofs.Folds.{fold_has, fold_keeps}
use Rattle.graph.specs.Graph.{Graph, step}
use Rattle.graph.specs.Readings.{Transition, transition, reads_from, is_reading, credit_of, readings, Best, no_reading, earns, better, added, best_from, mark_of, mark}
use Rattle.graph.proofs.Links.{some_of}
use Rattle.graph.proofs.Walks.{position_of, step_parts}
use Rattle.graph.proofs.Counting.{reading_counts, count_reading}
use Rattle.graph.proofs.Best.{Above, above_left, above_right, above_added, above_most, none_best, either_better}

-- the best with a credit before it is that of a best
added_best : (c m : ℤ) (x : Best) → added c x ≡ earns m → (n : ℤ) × (x ≡ earns n) × (c +ℤ n ≡ m)
added_best c m no_reading h = absurd (none_best m h)
added_best c m (earns n) h = (n, refl, ap mark_of h)

module _ (g : Graph) where
  best_above : (s : List ℕ) (u : ℕ) (r : List Transition) → reads_from g u s r ≡ true → Above (credit_of g r) (best_from g u s)
  best_above [] u [] h = subst (Above (pos 0)) (sym (if_yes (earns (pos 0)) no_reading (g.last u) h)) refl
  best_above [] u (t ∷ r) h = absurd (false≢true h)
  best_above (b ∷ s) u [] h = absurd (false≢true h)
  best_above (b ∷ s) u (t ∷ r) h =
      let i = t.position in
      let p = and_parts (step g u b i && ltb t.link (g.links u i)) (reads_from g i s r) h in
      let e = (and_parts (step g u b i) (ltb t.link (g.links u i)) p.0).0 in
      let l = (position_of g i (step_parts g u b i e).0).1 in
      fold_has no_reading better (Above (credit_of g (t ∷ r))) (above_left (credit_of g (t ∷ r))) (above_right (credit_of g (t ∷ r))) (step g u b) (λ j. added (g.credit j) (best_from g j s)) (suc g.positions) i (omega arith) e
      (above_added (g.credit i) (credit_of g r) (best_from g i s) (best_above s i r p.1))

  best_earned : (s : List ℕ) (u : ℕ) (m : ℤ) → best_from g u s ≡ earns m → (r : List Transition) × (reads_from g u s r ≡ true) × (credit_of g r ≡ m)
  best_earned [] u m h =
      by_test (g.last u) (λ e. ([], e, ap mark_of (sym (if_yes (earns (pos 0)) no_reading (g.last u) e) ∙ h)))
      (λ e. absurd (none_best m (sym (if_no (earns (pos 0)) no_reading (g.last u) e) ∙ h)))
  best_earned (b ∷ s) u m h =
      let w = found m h in
      let i = w.0 in
      let a = added_best (g.credit i) m (best_from g i s) w.2 in
      let q = best_earned s i a.0 a.1 in
      let one = some_of (g.links u i) (step_parts g u b i w.1).1 in
      (transition i 0 ∷ q.0, and_of (step g u b i && ltb 0 (g.links u i)) (reads_from g i s q.0) (and_of (step g u b i) (ltb 0 (g.links u i)) w.1 (lt-ltb 0 (g.links u i) one)) q.1, ap (λ (n : ℤ). g.credit i +ℤ n) q.2 ∙ a.2)
    where
      -- the best is that of a position that may come next
      Found : Best → Type 0
      Found x = (m : ℤ) → x ≡ earns m → (i : ℕ) × (step g u b i ≡ true) × (added (g.credit i) (best_from g i s) ≡ earns m)

      found : Found (best_from g u (b ∷ s))
      found = fold_keeps no_reading better Found (λ m h. absurd (none_best m h)) (either_better Found) (step g u b) (λ j. added (g.credit j) (best_from g j s)) (suc g.positions) (λ i l e m h. (i, e, h))

  -- where there is a reading, there is a best one
  best_there : (s : List ℕ) (r : List Transition) → is_reading g s r ≡ true → (m : ℤ) × (best_from g 0 s ≡ earns m) × (credit_of g r ≤ℤ m)
  best_there s r h = above_most (credit_of g r) (best_from g 0 s) (best_above s 0 r h)

  -- no reading earns more than the mark
  pub mark_most : (s : List ℕ) (r : List Transition) → is_reading g s r ≡ true → credit_of g r ≤ℤ mark g s
  mark_most s r h = let m = best_there s r h in subst (λ (n : ℤ). credit_of g r ≤ℤ n) (sym (ap mark_of m.1)) m.2

  -- where there is a reading, one earns it
  pub mark_earned : (s : List ℕ) → 1 ≤ readings g s → (r : List Transition) × (is_reading g s r ≡ true) × (credit_of g r ≡ mark g s)
  mark_earned s h =
      let q = count_reading g s h in
      let m = best_there s q.0 q.1 in
      let w = best_earned s 0 m.0 m.1 in
      (w.0, w.1, w.2 ∙ sym (ap mark_of m.1))

  -- where there is none, it is 0
  pub mark_none : (s : List ℕ) → readings g s ≡ 0 → mark g s ≡ pos 0
  mark_none s h = none (best_from g 0 s) refl
    where
      none : (x : Best) → best_from g 0 s ≡ x → mark_of x ≡ pos 0
      none no_reading e = refl
      none (earns m) e = let w = best_earned s 0 m e in let c = reading_counts g s w.0 w.1 in absurd (omega arith)
