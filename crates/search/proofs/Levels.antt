-- The levels of a queue that is filled breadth first. A node's level is the number of steps back from it to the first: levels rise along
-- the queue, and a step leads one level on at most. So no chain of steps to a goal is shorter than the way to the first goal that is
-- taken up. Assumes nothing.
use mathlib.Core.Path.{◌≡◌, refl, sym, ap, ◌∙◌, subst}
use mathlib.Core.Logic.{⊎_elim}
use mathlib.Core.Bool.{Bool, true, false, true≢false}
use mathlib.Core.List.{List, [], ◌∷◌}
use Prim.Native.Nat.{ℕ, zero, suc, ◌+◌, ◌≤◌, ◌<◌, zero-le}
use native.Mathlib.Omega.{arith}
use lib.ListN.{length}
use Rattle.basics.specs.Lists.{end_of, Chain}
use Rattle.basics.proofs.Tests.{le_or_lt}
use Rattle.search.specs.Search.{queue, back_of, Behind, first, later, SoundQueue}

-- ---- one step back

pub record Further (s : List ℕ) (i n : ℕ) : Type 0 where
  pub less : ℕ
  pub is : n ≡ suc less
  pub rest : Behind s (back_of s i) less

pub behind_further : (s : List ℕ) (i n : ℕ) → 0 < i → Behind s i n → Further s i n
behind_further s i n l first = absurd (omega arith)
behind_further s i n l (later {i = j} {n = m} k b) = record { less = m; is = refl; rest = b }

pub behind_none : (s : List ℕ) (i n : ℕ) → i ≡ 0 → Behind s i n → n ≡ 0
behind_none s i n e first = refl
behind_none s i n e (later k b) = absurd (omega arith)

module _ {E : ℕ → ℕ → Type 0} {T : ℕ → Bool} {s : List ℕ} {h t : ℕ} (w : SoundQueue E T s h t) where
  -- every node has a level
  level : (n i : ℕ) → i ≤ n → i < t → (m : ℕ) × Behind s i m
  level n zero k l = (0, first)
  level zero (suc i) k l = absurd (omega arith)
  level (suc n) (suc i) k l =
      let b = w.back (suc i) (omega arith) l in
      let r = level n (back_of s (suc i)) (omega arith) (omega arith) in
      (suc r.0, later (omega arith) r.1)

  -- it rises along the queue
  rises : (m i j n : ℕ) → i ≤ j → j < t → Behind s i m → Behind s j n → m ≤ n
  rises zero i j n l k b c = zero-le
  rises (suc m) i j n l k b c =
      ⊎_elim (λ z. let e = behind_none s i (suc m) (omega arith) b in omega arith)
      (λ z.
      let f = behind_further s i (suc m) z b in
      let g = behind_further s j n (omega arith) c in
      let back = (w.back j (omega arith) k).0 in
      let r = rises m (back_of s i) (back_of s j) g.less (w.ordered i j l k) (omega arith) (subst (Behind s (back_of s i)) (omega (arith, f.is)) f.rest) g.rest in
      omega (arith, g.is))
      (le_or_lt i 0)

  -- what is taken up from the j-th or a node before it is at most a level on
  one_on : (i j n m : ℕ) → i < t → j < t → back_of s i ≤ j → Behind s i n → Behind s j m → n ≤ suc m
  one_on i j n m l k back b c =
      ⊎_elim (λ z. let e = behind_none s i n (omega arith) b in omega arith)
      (λ z. let f = behind_further s i n z b in let r = rises f.less (back_of s i) j m back k f.rest c in omega (arith, f.is))
      (le_or_lt i 0)

  -- the i-th is the last of the queue and the first that passes a test: along no chain is there one at a lower level
  module _ (test : ℕ → Bool) (i n : ℕ) (last : t ≡ i + 1) (none : (j : ℕ) → j < i → test (queue s j) ≡ false) (b : Behind s i n) where
    along : (c : List ℕ) (j m : ℕ) → j < t → Behind s j m → Chain E (queue s j) c → test (end_of (queue s j) c) ≡ true → n ≤ m + length c
    along [] j m l k g e =
        ⊎_elim (λ f. let r = rises n i j m f l b k in omega arith) (λ f. absurd (true≢false (sym e ∙ none j f))) (le_or_lt i j)
    along (x ∷ c) j m l k g e =
        ⊎_elim (λ f. let back = w.behind i (omega arith) in let r = one_on i j n m (omega arith) l (omega arith) b k in omega arith)
        (λ f.
        let q = w.closed j f x g.0 in
        let v = level q.0.at q.0.at (omega arith) q.0.low in
        let r = one_on q.0.at j v.0 m q.0.low l q.1 v.1 k in
        let a = along c q.0.at v.0 q.0.low v.1 (subst (λ (y : ℕ). Chain E y c) (sym q.0.is) g.1) (ap (λ (y : ℕ). test (end_of y c)) q.0.is ∙ e) in
        omega arith)
        (le_or_lt h j)

    -- so the way back from the i-th is as short as any way from the first
    pub no_nearer : (u : ℕ) → queue s 0 ≡ u → (c : List ℕ) → Chain E u c → test (end_of u c) ≡ true → n ≤ length c
    no_nearer u is c k e = omega (arith, along c 0 0 w.begun first (subst (λ (x : ℕ). Chain E x c) (sym is) k) (ap (λ (x : ℕ). test (end_of x c)) is ∙ e))
