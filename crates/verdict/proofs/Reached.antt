-- `reaches` says what it should: a pair of positions is reached just where a chain of pairs leads to it. One with no pair twice
-- takes at most p * p steps, whatever pair it begins at. Assumes nothing.
use mathlib.Core.Path.{◌≡◌, refl, subst}
use mathlib.Core.Logic.{⊎_elim}
use mathlib.Core.Bool.{Bool, true, ◌&&◌, ◌||◌}
use mathlib.Core.List.{List, [], ◌∷◌}
use Prim.Native.Nat.{ℕ, zero, suc, ◌+◌, ◌*◌, ◌≤◌, zero-le}
use native.Mathlib.Omega.{arith}
use lib.Dec.{eqb}
use lib.ListN.{length}
use borrow.Author.Tests.{eqb-true, eq-eqb}
use Rattle.basics.specs.Folds.{any_if}
use Rattle.basics.specs.Lists.{end_of, Chain}
use Rattle.basics.proofs.Tests.{and_parts, and_of, or_left, or_right, or_cases, by_equal}
use Rattle.basics.proofs.Folds.{any_found, any_true}
use Rattle.graph.specs.Graph.{Graph, is_position, next}
use Rattle.graph.proofs.Walks.{position_of}
use Rattle.verdict.specs.Pairs.{Pair, pair, shares, some_pair, beside, reached}
use Rattle.verdict.specs.Verdict.{reaches}
use Rattle.verdict.proofs.Chains.{Way, way_step, way_join, short}
use Rattle.verdict.proofs.Pairs.{Placed, Beside, pair_same, pair_number, pair_low, pair_told}

module _ (g : Graph) where
  pub record FoundPair (f : ℕ → ℕ → Bool) : Type 0 where
    pub at : Pair
    pub placed : Placed g at
    pub holds : f at.left at.right ≡ true

  pub pair_found : (f : ℕ → ℕ → Bool) → some_pair g f ≡ true → FoundPair f
  pair_found f h =
      let a = any_found (is_position g) (λ i. any_if (is_position g) (f i) (suc g.positions)) (suc g.positions) h in
      let b = any_found (is_position g) (f a.i) (suc g.positions) a.holds in
      record { at = pair a.i b.i; placed = (a.member, b.member); holds = b.holds }

  pub some_pair_is : (f : ℕ → ℕ → Bool) (t : Pair) → Placed g t → f t.left t.right ≡ true → some_pair g f ≡ true
  some_pair_is f t h k =
      let l = position_of g t.left h.0 in
      let m = position_of g t.right h.1 in
      any_true (is_position g) (λ i. any_if (is_position g) (f i) (suc g.positions)) (suc g.positions) t.left (omega arith) h.0
      (any_true (is_position g) (f t.left) (suc g.positions) t.right (omega arith) h.1 k)

  -- ---- a step

  to_beside : (t u : Pair) → Placed g u → beside g t u.left u.right ≡ true → Beside g t u
  to_beside t u h e =
      let x = and_parts (next g t.left u.left) (next g t.right u.right && shares g u.left u.right) e in
      let y = and_parts (next g t.right u.right) (shares g u.left u.right) x.1 in
      record { placed = h; left_next = x.0; right_next = y.0; share = y.1 }

  of_beside : (t u : Pair) → Beside g t u → beside g t u.left u.right ≡ true
  of_beside t u b =
      and_of (next g t.left u.left) (next g t.right u.right && shares g u.left u.right) b.left_next
      (and_of (next g t.right u.right) (shares g u.left u.right) b.right_next b.share)

  -- ---- at most k steps

  abbrev is_at : ℕ → Pair → Pair → Bool
  is_at k t z = reached g k t z.left z.right

  -- the last of them from a pair of positions
  abbrev through : ℕ → Pair → Pair → ℕ → ℕ → Bool
  through k t z a b = reached g k t a b && beside g (pair a b) z.left z.right

  reached_way : (k : ℕ) (t z : Pair) → Placed g z → is_at k t z ≡ true → Way (Beside g) t z
  reached_way zero t z p h =
      let e = and_parts (eqb t.left z.left) (eqb t.right z.right) h in
      record { nodes = []; goes = tt; ends = pair_same t z (eqb-true t.left z.left e.0) (eqb-true t.right z.right e.1) }
  reached_way (suc k) t z p h =
      let less = reached_way k in
      ⊎_elim (λ e. less t z p e)
      (λ e.
      ⊎_elim (λ b. way_step (Beside g) t z (to_beside t z p b))
      (λ f.
      let u = pair_found (through k t z) f in
      let x = and_parts (is_at k t u.at) (beside g u.at z.left z.right) u.holds in
      way_join (Beside g) t u.at z (less t u.at u.placed x.0) (way_step (Beside g) u.at z (to_beside u.at z p x.1)))
      (or_cases (beside g t z.left z.right) (some_pair g (through k t z)) e))
      (or_cases (is_at k t z) (beside g t z.left z.right || some_pair g (through k t z)) h)

  one_more : (k : ℕ) (t z : Pair) → is_at k t z ≡ true → is_at (suc k) t z ≡ true
  one_more k t z h = or_left (is_at k t z) (beside g t z.left z.right || some_pair g (through k t z)) h

  from_start : (k : ℕ) (t z : Pair) → Beside g t z → is_at (suc k) t z ≡ true
  from_start k t z b = or_right (is_at k t z) (beside g t z.left z.right || some_pair g (through k t z)) (or_left (beside g t z.left z.right) (some_pair g (through k t z)) (of_beside t z b))

  onward : (k : ℕ) (t u z : Pair) → Placed g u → is_at k t u ≡ true → Beside g u z → is_at (suc k) t z ≡ true
  onward k t u z p h b =
      or_right (is_at k t z) (beside g t z.left z.right || some_pair g (through k t z))
      (or_right (beside g t z.left z.right) (some_pair g (through k t z))
      (some_pair_is (through k t z) u p (and_of (is_at k t u) (beside g u z.left z.right) h (of_beside u z b))))

  at_most : (k n : ℕ) (t z : Pair) → k ≤ n → is_at k t z ≡ true → is_at n t z ≡ true
  at_most k zero t z l h = let e : k ≡ 0 = omega arith in subst (λ (m : ℕ). is_at m t z ≡ true) e h
  at_most k (suc n) t z l h =
      let less = at_most k n t z in
      by_equal k (suc n) (λ e. subst (λ (m : ℕ). is_at m t z ≡ true) e h) (λ d. one_more n t z (less (omega arith) h))

  -- after k steps, along a chain
  chain_on : (k n : ℕ) (t u : Pair) (c : List Pair) → Placed g u → is_at k t u ≡ true → Chain (Beside g) u c → k + length c ≤ n → is_at n t (end_of u c) ≡ true
  chain_on k n t u [] p h w l = at_most k n t u (omega arith) h
  chain_on k n t u (v ∷ c) p h w l = chain_on (suc k) n t v c w.0.placed (onward k t u v p h w.0) w.1 (omega arith)

  chain_reached : (n : ℕ) (t : Pair) (c : List Pair) → Chain (Beside g) t c → length c ≤ n → is_at n t (end_of t c) ≡ true
  chain_reached n t [] h l = at_most 0 n t t zero-le (and_of (eqb t.left t.left) (eqb t.right t.right) (eq-eqb t.left t.left refl) (eq-eqb t.right t.right refl))
  chain_reached n t (u ∷ c) h l = chain_on 1 n t u c h.0.placed (from_start 0 t u h.0) h.1 (omega arith)

  -- ---- any number of steps

  pub reaches_way : (t z : Pair) → Placed g z → reaches g t z.left z.right ≡ true → Way (Beside g) t z
  reaches_way = reached_way (g.positions * g.positions)

  pub way_reaches : (t z : Pair) → Way (Beside g) t z → reaches g t z.left z.right ≡ true
  way_reaches t z w =
      let s = short (Beside g) (pair_number g) (Placed g) (g.positions * g.positions) (pair_low g) (pair_told g) (λ x y b. b.placed) t z w in
      subst (λ (x : Pair). reaches g t x.left x.right ≡ true) s.ends (chain_reached (g.positions * g.positions) t s.nodes s.goes s.few)
