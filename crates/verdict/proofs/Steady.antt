-- With no pivot, a text of m letters has at most (m + 2) ^ (2 p) walks. A walk is told apart by the first and last visit of
-- each position: between them another walk with the same visits goes the same way, or there would be two loops. Assumes nothing.
use mathlib.Core.Path.{◌≡◌, refl, sym, ap, ◌∙◌}
use mathlib.Core.Bool.{true}
use mathlib.Core.List.{List, ◌∷◌}
use Prim.Native.Nat.{ℕ, zero, suc, ◌+◌, ◌-◌, ◌*◌, ◌^◌, ◌≤◌, ◌<◌, zero-le}
use native.Mathlib.Nat.{not-suc-le-zero}
use native.Mathlib.Omega.{arith}
use lib.ListN.{length, get_or, take, drop, length-drop}
use lib.Seq.{get_or-drop, get_or-take, drop-cons, ext_get_or}
use Rattle.basics.specs.Lists.{Each, Apart, end_of}
use Rattle.basics.proofs.Tests.{by_equal}
use Rattle.basics.proofs.Lists.{end_take}
use Rattle.graph.specs.Graph.{Graph, is_position}
use Rattle.graph.proofs.Walks.{Walk, position_of, walk_length, walk_take, walk_drop, walk_position}
use Rattle.verdict.proofs.Encode.{pigeon_digits}

-- two loops from a position back to it over one text are one loop
abbrev pub NoPivot : Graph → Type 0
NoPivot g = (q : ℕ) → is_position g q ≡ true → (s c d : List ℕ) → Walk g q s c → Walk g q s d → end_of q c ≡ q → end_of q d ≡ q → c ≡ d

-- ---- the first of n places where v is q, n where there is none

record Visit (v : ℕ → ℕ) (q n : ℕ) : Type 0 where
  at : ℕ
  within : at ≤ n
  here : at < n → v at ≡ q
  least : (i : ℕ) → i < n → v i ≡ q → at ≤ i

visit : (v : ℕ → ℕ) (q n : ℕ) → Visit v q n
visit v q zero = record { at = 0; within = zero-le; here = λ l. absurd (not-suc-le-zero l); least = λ i l e. zero-le }
visit v q (suc n) =
    let r = visit (λ i. v (suc i)) q n in
    by_equal (v 0) q
    (λ e. record { at = 0; within = zero-le; here = λ l. e; least = λ i l h. zero-le })
    (λ d. record { at = suc r.at; within = omega (arith, r.within); here = λ l. r.here (omega arith); least = later d r.least })
  where
    later : {k : ℕ} → (v 0 ≡ q → ⊥) → ((i : ℕ) → i < n → v (suc i) ≡ q → k ≤ i) → (i : ℕ) → i < suc n → v i ≡ q → suc k ≤ i
    later d f zero l e = absurd (d e)
    later d f (suc i) l e = omega (arith, f i (omega arith) e)

module _ (m : ℕ) (r : List ℕ) where
  -- the first visit of a position, and the last, told by how many places stand after it
  first : (q : ℕ) → Visit (λ i. get_or r i 0) q m
  first q = visit (λ i. get_or r i 0) q m

  last : (q : ℕ) → Visit (λ i. get_or r (m - suc i) 0) q m
  last q = visit (λ i. get_or r (m - suc i) 0) q m

  abbrev visits : ℕ → ℕ × ℕ
  visits q = ((first (suc q)).at, (last (suc q)).at)

-- ---- told apart by first and last visits

module _ (g : Graph) (np : NoPivot g) (u : ℕ) (s : List ℕ) where
  -- a walk that is at q at f and again at l
  record Returns (f l q : ℕ) (r : List ℕ) : Type 0 where
    walk : Walk g u s r
    inside : l < length r
    once : get_or r f 0 ≡ q
    again : get_or r l 0 ≡ q

  -- two of them go the same way between
  between : (f i l q : ℕ) → f ≤ i → i ≤ l → (r v : List ℕ) → Returns f l q r → Returns f l q v → get_or r i 0 ≡ get_or v i 0
  between f i l q fi il r v a b =
      sym (same r a) ∙ ap (λ c. get_or (q ∷ c) (i - f) 0) (np q (place r a) (loop s) (loop r) (loop v) (turns r a) (turns v b) (back r a) (back v b)) ∙ same v b
    where
      loop : List ℕ → List ℕ
      loop c = take (l - f) (drop (suc f) c)

      place : (c : List ℕ) → Returns f l q c → is_position g q ≡ true
      place c w = rw w.once at (walk_position g u f s c (omega arith) w.walk)

      turns : (c : List ℕ) → Returns f l q c → Walk g q (loop s) (loop c)
      turns c w = walk_take g q (l - f) (drop (suc f) s) (drop (suc f) c) (rw w.once at (walk_drop g u f s c (omega arith) w.walk))

      at : (c : List ℕ) → Returns f l q c → (j : ℕ) → f ≤ j → get_or (q ∷ drop (suc f) c) (j - f) 0 ≡ get_or c j 0
      at c w j fj = let e : f + (j - f) ≡ j = omega arith in
          rw (← w.once, ← drop-cons c f 0 (omega arith)) (get_or-drop f c (j - f) 0 ∙ ap (λ x. get_or c x 0) e)

      same : (c : List ℕ) → Returns f l q c → get_or (q ∷ loop c) (i - f) 0 ≡ get_or c i 0
      same c w = get_or-take (suc (l - f)) (q ∷ drop (suc f) c) (i - f) 0 (omega arith) ∙ at c w i fi

      back : (c : List ℕ) → Returns f l q c → end_of q (loop c) ≡ q
      back c w = end_take q 0 (l - f) (drop (suc f) c) (simp length-drop (omega arith)) ∙ at c w l (omega arith) ∙ w.again

  abbrev m : ℕ
  m = length s

  returns : (r : List ℕ) → Walk g u s r → (q f k : ℕ) → (first m r q).at ≡ f → (last m r q).at ≡ k → f < m → k < m → Returns f (m - suc k) q r
  returns r w q f k x y fm km = record {
    walk = w;
    inside = omega (arith, walk_length g u s r w);
    once = rw x at ((first m r q).here (omega arith));
    again = rw y at ((last m r q).here (omega arith));
  }

  told : (r v : List ℕ) → Walk g u s r → Walk g u s v → ((q : ℕ) → q < g.positions → visits m r q ≡ visits m v q) → r ≡ v
  told r v a b same = ext_get_or 0 r v (walk_length g u s r a ∙ sym (walk_length g u s v b))
      (λ i l. at i (omega (arith, walk_length g u s r a)) (get_or r i 0) refl (position_of g (get_or r i 0) (walk_position g u i s r l a)))
    where
      at : (i : ℕ) → i < m → (q : ℕ) → get_or r i 0 ≡ q → (1 ≤ q) × (q ≤ g.positions) → get_or r i 0 ≡ get_or v i 0
      at i l zero e p = absurd (omega arith)
      at i l (suc q) e p =
          let f : ℕ = (first m r (suc q)).at in
          let k : ℕ = (last m r (suc q)).at in
          let z : m - suc (m - suc i) ≡ i = omega arith in
          let early = (first m r (suc q)).least i l e in
          let late = (last m r (suc q)).least (m - suc i) (omega arith) (ap (λ j. get_or r j 0) z ∙ e) in
          between f i (m - suc k) (suc q) early (omega arith) r v
          (returns r a (suc q) f k refl refl (omega arith) (omega arith))
          (returns v b (suc q) f k (sym (ap (λ x. x.0) (same q p.1))) (sym (ap (λ x. x.1) (same q p.1))) (omega arith) (omega arith))

pub steady : (g : Graph) → NoPivot g → (u : ℕ) (s : List ℕ) (rs : List (List ℕ)) → Apart rs → Each (Walk g u s) rs → length rs ≤ (length s + 2) ^ (2 * g.positions)
steady g np u s = pigeon_digits (visits (length s)) (Walk g u s) (length s + 2) g.positions
    (λ r w q. (omega (arith, (first (length s) r (suc q)).within), omega (arith, (last (length s) r (suc q)).within))) (told g np u s)
