-- The laws of a fold over the numbers below n that pass a test. One law takes the least of them off, for every fold
-- at once: it is what a loop that walks a set does at each turn. Assumes nothing.
use mathlib.Core.Path.{◌≡◌, refl, sym, ap, ap₂, ◌∙◌, subst}
use mathlib.Core.Logic.{◌⊎◌, inl, inr, ⊎_elim}
use mathlib.Core.Bool.{Bool, true, false, not, ◌&&◌, ◌||◌, or_assoc, or-false, and-true, and-false, false≢true}
use mathlib.Core.List.{List, [], ◌∷◌, ◌++◌, append-nil, append_assoc}
use Prim.Native.Nat.{ℕ, zero, suc, ◌+◌, ◌≤◌, ◌<◌, max}
use native.Mathlib.Nat.{not-suc-le-zero, add_assoc, zero-add, add-zero, le_refl}
use native.Mathlib.Omega.{arith}
use lib.Dec.{eqb}
use lib.ListN.{get_or}
use borrow.Author.Tests.{eq-eqb, ne_eqb, eqb-true}
use Rattle.std.specs.Prelude.{if◌then◌else◌}
use Rattle.basics.specs.Folds.{fold_if, sum_if, any_if, list_if, most_if, Less, LeastOf}
use Rattle.basics.proofs.Tests.{by_test, by_equal, if_yes, if_no, if_either, le_or_lt, or_left, or_right, or_cases, and_parts, and_of, same_test}

pub less_here : (p q : ℕ → Bool) (t : ℕ) → Less p t q → q t ≡ false
less_here p q t e = e t ∙ ap (λ (b : Bool). p t && not b) (eq-eqb t t refl) ∙ and-false (p t)

pub less_other : (p q : ℕ → Bool) (t : ℕ) → Less p t q → (j : ℕ) → (t ≡ j → ⊥) → q j ≡ p j
less_other p q t e j d = e j ∙ ap (λ (b : Bool). p j && not b) (ne_eqb t j d) ∙ and-true (p j)

module _ {A : Type 0} (none : A) (join : A → A → A) where
  -- one number more: it passes, or it does not
  pub fold_yes : (p : ℕ → Bool) (f : ℕ → A) (n : ℕ) → p n ≡ true → fold_if none join p f (suc n) ≡ join (fold_if none join p f n) (f n)
  unfolding fold_if
  fold_yes p f n e = if_yes (join (fold_if none join p f n) (f n)) (fold_if none join p f n) (p n) e

  pub fold_no : (p : ℕ → Bool) (f : ℕ → A) (n : ℕ) → p n ≡ false → fold_if none join p f (suc n) ≡ fold_if none join p f n
  unfolding fold_if
  fold_no p f n e = if_no (join (fold_if none join p f n) (f n)) (fold_if none join p f n) (p n) e

  pub fold_zero : (p : ℕ → Bool) (f : ℕ → A) → fold_if none join p f 0 ≡ none
  unfolding fold_if
  fold_zero p f = refl

  -- two folds are one where test and values agree
  pub fold_same : (p q : ℕ → Bool) (f g : ℕ → A) (n : ℕ) → ((i : ℕ) → i < n → p i ≡ q i) → ((i : ℕ) → i < n → p i ≡ true → f i ≡ g i)
      → fold_if none join p f n ≡ fold_if none join q g n
  fold_same p q f g zero h k = fold_zero p f ∙ sym (fold_zero q g)
  fold_same p q f g (suc n) h k =
      let r = fold_same p q f g n (λ i l. h i (omega arith)) (λ i l. k i (omega arith)) in
      let s = h n (le_refl (suc n)) in
      by_test (p n)
      (λ e. fold_yes p f n e ∙ ap₂ join r (k n (le_refl (suc n)) e) ∙ sym (fold_yes q g n (sym s ∙ e)))
      (λ e. fold_no p f n e ∙ r ∙ sym (fold_no q g n (sym s ∙ e)))

  -- where none passes, there is nothing to join
  pub fold_none : (p : ℕ → Bool) (f : ℕ → A) (n : ℕ) → ((i : ℕ) → i < n → p i ≡ false) → fold_if none join p f n ≡ none
  fold_none p f zero h = fold_zero p f
  fold_none p f (suc n) h = fold_no p f n (h n (le_refl (suc n))) ∙ fold_none p f n (λ i l. h i (omega arith))

  -- what can hold of each value, and is kept by joining, holds of the fold
  pub fold_keeps {ℓ} : (P : A → Type ℓ) → P none → ((a b : A) → P a → P b → P (join a b)) → (p : ℕ → Bool) (f : ℕ → A) (n : ℕ) → ((i : ℕ) → i < n → p i ≡ true → P (f i))
      → P (fold_if none join p f n)
  fold_keeps P z k p f zero h = subst P (sym (fold_zero p f)) z
  fold_keeps P z k p f (suc n) h =
      let r = fold_keeps P z k p f n (λ i l. h i (omega arith)) in
      by_test (p n)
      (λ e. subst P (sym (fold_yes p f n e)) (k (fold_if none join p f n) (f n) r (h n (le_refl (suc n)) e)))
      (λ e. subst P (sym (fold_no p f n e)) r)

  -- a fact of one value that joining keeps on either side holds of the fold that has it
  pub fold_has {ℓ} : (P : A → Type ℓ) → ((a b : A) → P a → P (join a b)) → ((a b : A) → P b → P (join a b)) → (p : ℕ → Bool) (f : ℕ → A) (n i : ℕ) → i < n → p i ≡ true → P (f i)
      → P (fold_if none join p f n)
  fold_has P k l p f zero i m y h = absurd (not-suc-le-zero m)
  fold_has P k l p f (suc n) i m y h =
      let r = fold_has P k l p f n i in
      by_equal i n
      (λ z. subst P (sym (fold_yes p f n (ap p (sym z) ∙ y))) (l (fold_if none join p f n) (f n) (subst (λ (j : ℕ). P (f j)) z h)))
      (λ d.
      by_test (p n)
      (λ e. subst P (sym (fold_yes p f n e)) (k (fold_if none join p f n) (f n) (r (omega arith) y h)))
      (λ e. subst P (sym (fold_no p f n e)) (r (omega arith) y h)))

  -- for a fold that can be regrouped: the least member first, then the others
  module _ (left : (a : A) → join none a ≡ a) (right : (a : A) → join a none ≡ a) (assoc : (a b c : A) → join (join a b) c ≡ join a (join b c)) where
    pub fold_least : (p q : ℕ → Bool) (t : ℕ) → Less p t q → p t ≡ true → ((j : ℕ) → j < t → p j ≡ false) → (f : ℕ → A) (n : ℕ) → t < n
        → fold_if none join p f n ≡ join (f t) (fold_if none join q f n)
    fold_least p q t e here low f zero l = absurd (not-suc-le-zero l)
    fold_least p q t e here low f (suc n) l =
        by_equal t n
        (λ z.
        let before : fold_if none join p f n ≡ none = fold_none p f n (λ i k. low i (omega arith)) in
        let after : fold_if none join q f n ≡ none = fold_none q f n (λ i k. less_other p q t e i (λ y. omega arith) ∙ low i (omega arith)) in
        fold_yes p f n (ap p (sym z) ∙ here) ∙ ap₂ join before (ap f (sym z)) ∙ left (f t) ∙ sym (right (f t))
        ∙ ap (join (f t)) (sym (fold_no q f n (ap q (sym z) ∙ less_here p q t e) ∙ after)))
        (λ d.
        let r = fold_least p q t e here low f n (omega arith) in
        let s : q n ≡ p n = less_other p q t e n d in
        by_test (p n)
        (λ y. fold_yes p f n y ∙ ap (λ (a : A). join a (f n)) r ∙ assoc (f t) (fold_if none join q f n) (f n) ∙ ap (join (f t)) (sym (fold_yes q f n (s ∙ y))))
        (λ y. fold_no p f n y ∙ r ∙ ap (join (f t)) (sym (fold_no q f n (s ∙ y)))))

-- a function that turns one joining into another turns one fold into the other
pub fold_through : {A B : Type 0} (none : A) (join : A → A → A) (none' : B) (join' : B → B → B) (h : A → B) → h none ≡ none' → ((a b : A) → h (join a b) ≡ join' (h a) (h b))
    → (p : ℕ → Bool) (f : ℕ → A) (n : ℕ) → h (fold_if none join p f n) ≡ fold_if none' join' p (λ i. h (f i)) n
fold_through none join none' join' h z k p f zero = ap h (fold_zero none join p f) ∙ z ∙ sym (fold_zero none' join' p (λ i. h (f i)))
fold_through {B = B} none join none' join' h z k p f (suc n) =
    let r = fold_through none join none' join' h z k p f n in
    by_test (p n)
    (λ e. ap h (fold_yes none join p f n e) ∙ k (fold_if none join p f n) (f n) ∙ ap (λ (b : B). join' b (h (f n))) r ∙ sym (fold_yes none' join' p (λ i. h (f i)) n e))
    (λ e. ap h (fold_no none join p f n e) ∙ r ∙ sym (fold_no none' join' p (λ i. h (f i)) n e))

-- ---- sums and lists

pub sum_least : (p q : ℕ → Bool) (t : ℕ) → Less p t q → p t ≡ true → ((j : ℕ) → j < t → p j ≡ false) → (f : ℕ → ℕ) (n : ℕ) → t < n → sum_if p f n ≡ f t + sum_if q f n
sum_least = fold_least 0 ◌+◌ zero-add add-zero add_assoc

pub list_least : (p q : ℕ → Bool) (t : ℕ) → Less p t q → p t ≡ true → ((j : ℕ) → j < t → p j ≡ false) → (n : ℕ) → t < n → list_if p n ≡ t ∷ list_if q n
list_least p q t e here low n l = fold_least [] ◌++◌ (λ a. refl) append-nil append_assoc p q t e here low (λ i. i ∷ []) n l

-- ---- the least of them

pub least : (p : ℕ → Bool) (n : ℕ) → ((i : ℕ) → i < n → p i ≡ false) ⊎ ((t : ℕ) × (t < n) × LeastOf p t)
least p zero = inl (λ i l. absurd (not-suc-le-zero l))
least p (suc n) =
    ⊎_elim
    (λ none.
    by_test (p n) (λ e. inr (n, le_refl (suc n), record { here = e; none = none }))
    (λ e. inl (λ i l. by_equal i n (λ z. ap p z ∙ e) (λ d. none i (omega arith)))))
    (λ r. inr (r.0, (let l = r.1 in omega arith), r.2)) (least p n)

pub list_first : (p : ℕ → Bool) (n d t : ℕ) → t < n → LeastOf p t → get_or (list_if p n) 0 d ≡ t
list_first p n d t l h = ap (λ (xs : List ℕ). get_or xs 0 d) (list_least p (λ j. p j && not (eqb t j)) t (λ j. refl) h.here h.none n l)

pub list_none : (p : ℕ → Bool) (n d : ℕ) → ((i : ℕ) → i < n → p i ≡ false) → get_or (list_if p n) 0 d ≡ d
list_none p n d h = ap (λ (xs : List ℕ). get_or xs 0 d) (fold_none [] ◌++◌ p (λ i. i ∷ []) n h)

-- n is the least number below m that passes p, or m where none does: the first of the list, with m past its end
pub record FirstBelow (p : ℕ → Bool) (m n : ℕ) : Type 0 where
  pub within : n ≤ m
  pub here : n < m → p n ≡ true
  pub none : (j : ℕ) → j < n → p j ≡ false

pub first_is : (p : ℕ → Bool) (m n : ℕ) → FirstBelow p m n → get_or (list_if p m) 0 m ≡ n
first_is p m n h =
    ⊎_elim (λ l. list_none p m m (λ j k. h.none j (omega arith)) ∙ (let w = h.within in omega arith)) (λ l. list_first p m m n l (record { here = h.here l; none = h.none })) (le_or_lt m n)

pub first_below : (p : ℕ → Bool) (m : ℕ) → FirstBelow p m (get_or (list_if p m) 0 m)
first_below p m =
    ⊎_elim
    (λ none. let f : FirstBelow p m m = record { within = le_refl m; here = λ l. absurd (omega arith); none = none } in subst (FirstBelow p m) (sym (first_is p m m f)) f)
    (λ r. let f : FirstBelow p m r.0 = record { within = (let l = r.1 in omega arith); here = λ l. r.2.here; none = r.2.none } in subst (FirstBelow p m) (sym (first_is p m r.0 f)) f)
    (least p m)

-- ---- the greatest

pub le_max : (a b : ℕ) → (a ≤ max a b) × (b ≤ max a b)
le_max a b = omega arith

pub max_le : (a b k : ℕ) → a ≤ k → b ≤ k → max a b ≤ k
max_le a b k p q = omega arith

pub max_none : (a : ℕ) → max a 0 ≡ a
max_none a = omega arith

pub max_comm : (a b : ℕ) → max a b ≡ max b a
max_comm a b = omega arith

pub max_assoc : (a b c : ℕ) → max (max a b) c ≡ max a (max b c)
max_assoc a b c = omega arith

pub most_least : (p q : ℕ → Bool) (t : ℕ) → Less p t q → p t ≡ true → ((j : ℕ) → j < t → p j ≡ false) → (f : ℕ → ℕ) (n : ℕ) → t < n → most_if p f n ≡ max (f t) (most_if q f n)
most_least = fold_least 0 max (λ a. max_comm 0 a ∙ max_none a) max_none max_assoc

-- no value is above it
pub most_above : (p : ℕ → Bool) (f : ℕ → ℕ) (n i : ℕ) → i < n → p i ≡ true → f i ≤ most_if p f n
most_above p f n i l e =
    fold_has 0 max (λ (a : ℕ). f i ≤ a) (λ a b h. omega (arith, le_max a b)) (λ a b h. omega (arith, le_max a b)) p f n i l e (le_refl (f i))

-- ---- a test that holds of a member

pub any_least : (p q : ℕ → Bool) (t : ℕ) → Less p t q → p t ≡ true → ((j : ℕ) → j < t → p j ≡ false) → (f : ℕ → Bool) (n : ℕ) → t < n → any_if p f n ≡ (f t || any_if q f n)
any_least = fold_least false ◌||◌ (λ b. refl) or-false or_assoc

pub any_true : (p f : ℕ → Bool) (n i : ℕ) → i < n → p i ≡ true → f i ≡ true → any_if p f n ≡ true
any_true = fold_has false ◌||◌ (λ (b : Bool). b ≡ true) or_left or_right

pub record Found (p f : ℕ → Bool) (n : ℕ) : Type 0 where
  pub i : ℕ
  pub under : i < n
  pub member : p i ≡ true
  pub holds : f i ≡ true

pub any_found : (p f : ℕ → Bool) (n : ℕ) → any_if p f n ≡ true → Found p f n
any_found p f n =
    fold_keeps false ◌||◌ (λ (b : Bool). b ≡ true → Found p f n) (λ e. absurd (false≢true e)) (λ a b x y e. ⊎_elim x y (or_cases a b e)) p f n
    (λ i l e h. record { i = i; under = l; member = e; holds = h })

-- one answer for all members of a set that has one
pub any_same : (p : ℕ → Bool) (c : Bool) (n i : ℕ) → i < n → p i ≡ true → any_if p (λ j. c) n ≡ c
any_same p true n i l h = any_true p (λ j. true) n i l h refl
any_same p false n i l h = fold_keeps false ◌||◌ (λ (a : Bool). a ≡ false) refl (λ a b x y. ap₂ ◌||◌ x y) p (λ j. false) n (λ j k e. refl)

-- the members that pass f, one at a time: what a loop that keeps them has kept in the end
pub any_one : (p f : ℕ → Bool) (n j : ℕ) → (p j ≡ true → j < n) → any_if p (λ i. f i && eqb i j) n ≡ (p j && f j)
any_one p f n j l =
    same_test (any_if p (λ i. f i && eqb i j) n) (p j && f j)
    (λ e.
    let w = any_found p (λ i. f i && eqb i j) n e in
    let h = and_parts (f w.i) (eqb w.i j) w.holds in
    let z = eqb-true w.i j h.1 in
    and_of (p j) (f j) (ap p (sym z) ∙ w.member) (ap f (sym z) ∙ h.0))
    (λ e.
    let h = and_parts (p j) (f j) e in
    any_true p (λ i. f i && eqb i j) n j (l h.0) h.0 (and_of (f j) (eqb j j) h.1 (eq-eqb j j refl)))

-- ---- a fold over fewer numbers, and one over pairs in either order

module _ {A : Type 0} (none : A) (join : A → A → A) where
  -- no member from k on
  pub fold_longer : (p : ℕ → Bool) (f : ℕ → A) (k n : ℕ) → k ≤ n → ((i : ℕ) → k ≤ i → p i ≡ false) → fold_if none join p f n ≡ fold_if none join p f k
  fold_longer p f k zero l h = ap (fold_if none join p f) (omega arith)
  fold_longer p f k (suc n) l h =
      let r = fold_longer p f k n in
      by_equal (suc n) k (λ z. ap (fold_if none join p f) z) (λ d. fold_no none join p f n (h n (omega arith)) ∙ r (omega arith) h)

  module _ (right : (a : A) → join a none ≡ a) where
    -- the members of p that fail q have nothing to join
    pub fold_where : (p q r : ℕ → Bool) (f g : ℕ → A) → ((i : ℕ) → r i ≡ (p i && q i)) → ((i : ℕ) → r i ≡ true → f i ≡ g i) → ((i : ℕ) → q i ≡ false → f i ≡ none)
        → (n : ℕ) → fold_if none join p f n ≡ fold_if none join r g n
    fold_where p q r f g e same off zero = fold_zero none join p f ∙ sym (fold_zero none join r g)
    fold_where p q r f g e same off (suc n) =
        let ih = fold_where p q r f g e same off n in
        by_test (p n)
        (λ x.
        by_test (q n)
        (λ y. let z = e n ∙ and_of (p n) (q n) x y in fold_yes none join p f n x ∙ ap₂ join ih (same n z) ∙ sym (fold_yes none join r g n z))
        (λ y.
        fold_yes none join p f n x ∙ ap₂ join ih (off n y) ∙ right (fold_if none join r g n)
        ∙ sym (fold_no none join r g n (e n ∙ ap (λ (b : Bool). p n && b) y ∙ and-false (p n)))))
        (λ x. fold_no none join p f n x ∙ ih ∙ sym (fold_no none join r g n (e n ∙ ap (λ (b : Bool). b && q n) x)))

    module _ (comm : (a b : A) → join a b ≡ join b a) (assoc : (a b c : A) → join (join a b) c ≡ join a (join b c)) where
      -- a second value, for the members that pass q
      fold_both : (p q : ℕ → Bool) (f g : ℕ → A) (n : ℕ)
          → fold_if none join p (λ i. if q i then join (f i) (g i) else f i) n ≡ join (fold_if none join p f n) (fold_if none join (λ i. p i && q i) g n)
      fold_both p q f g zero =
          fold_zero none join p (λ i. if q i then join (f i) (g i) else f i)
          ∙ sym (ap₂ join (fold_zero none join p f) (fold_zero none join (λ i. p i && q i) g) ∙ right none)
      fold_both p q f g (suc n) =
          let ih = fold_both p q f g n in
          by_test (p n)
          (λ x.
          by_test (q n)
          (λ y.
          fold_yes none join p h n x ∙ ap₂ join ih (if_yes (join (f n) (g n)) (f n) (q n) y) ∙ middle a b (f n) (g n)
          ∙ sym (ap₂ join (fold_yes none join p f n x) (fold_yes none join r g n (and_of (p n) (q n) x y))))
          (λ y.
          fold_yes none join p h n x ∙ ap₂ join ih (if_no (join (f n) (g n)) (f n) (q n) y) ∙ assoc a b (f n) ∙ ap (join a) (comm b (f n)) ∙ sym (assoc a (f n) b)
          ∙ sym (ap₂ join (fold_yes none join p f n x) (fold_no none join r g n (ap (λ (t : Bool). p n && t) y ∙ and-false (p n))))))
          (λ x. fold_no none join p h n x ∙ ih ∙ sym (ap₂ join (fold_no none join p f n x) (fold_no none join r g n (ap (λ (t : Bool). t && q n) x))))
        where
          r : ℕ → Bool
          r i = p i && q i

          h : ℕ → A
          h i = if q i then join (f i) (g i) else f i

          a : A
          a = fold_if none join p f n

          b : A
          b = fold_if none join r g n

          middle : (a b x y : A) → join (join a b) (join x y) ≡ join (join a x) (join b y)
          middle a b x y =
              assoc a b (join x y) ∙ ap (join a) (sym (assoc b x y) ∙ ap (λ (z : A). join z y) (comm b x) ∙ assoc x b y) ∙ sym (assoc a x (join b y))

      -- the pairs by their first numbers, or by their second
      pub fold_swap : (p q : ℕ → Bool) (ps qs : ℕ → ℕ → Bool) → ((u i : ℕ) → (p u && ps u i) ≡ (q i && qs i u)) → (f : ℕ → ℕ → A) (n k : ℕ)
          → fold_if none join p (λ u. fold_if none join (ps u) (f u) k) n ≡ fold_if none join q (λ i. fold_if none join (qs i) (λ u. f u i) n) k
      fold_swap p q ps qs e f zero k =
          fold_zero none join p (λ u. fold_if none join (ps u) (f u) k)
          ∙ sym (fold_keeps none join (λ (a : A). a ≡ none) refl (λ a b x y. ap₂ join x y ∙ right none) q (λ i. fold_if none join (qs i) (λ u. f u i) 0) k
          (λ i l y. fold_zero none join (qs i) (λ u. f u i)))
      fold_swap p q ps qs e f (suc n) k =
          let ih = fold_swap p q ps qs e f n k in
          by_test (p n)
          (λ x.
          fold_yes none join p left n x
          ∙ ap₂ join ih (fold_same none join (ps n) (λ i. q i && qs i n) (f n) (f n) k (λ i l. sym (ap (λ (t : Bool). t && ps n i) x) ∙ e n i) (λ i l y. refl)) ∙ sym more)
          (λ x.
          fold_no none join p left n x ∙ ih ∙ sym (right (fold_if none join q (right' n) k))
          ∙ ap (join (fold_if none join q (right' n) k)) (sym (fold_none none join (λ i. q i && qs i n) (f n) k (λ i l. sym (e n i) ∙ ap (λ (t : Bool). t && ps n i) x)))
          ∙ sym more)
        where
          left : ℕ → A
          left u = fold_if none join (ps u) (f u) k

          right' : ℕ → ℕ → A
          right' n i = fold_if none join (qs i) (λ u. f u i) n

          more : fold_if none join q (right' (suc n)) k ≡ join (fold_if none join q (right' n) k) (fold_if none join (λ i. q i && qs i n) (f n) k)
          more = fold_same none join q q (right' (suc n)) (λ i. if qs i n then join (right' n i) (f n i) else right' n i) k (λ i l. refl) (λ i l y. turn i) ∙ fold_both q (λ i. qs i n) (right' n) (f n) k
            where
              turn : (i : ℕ) → right' (suc n) i ≡ (if qs i n then join (right' n i) (f n i) else right' n i)
              turn i =
                  if_either (λ (a : A). right' (suc n) i ≡ a) (join (right' n i) (f n i)) (right' n i) (qs i n) (fold_yes none join (qs i) (λ u. f u i) n)
                  (fold_no none join (qs i) (λ u. f u i) n)
