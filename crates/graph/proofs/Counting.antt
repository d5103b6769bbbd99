-- The number of readings is the true one: a list has all readings, each once, and is as long as the count says.
-- The list is the same fold as the count, with readings joined where numbers are added, and once more for each link. Assumes nothing.
use mathlib.Core.Path.{◌≡◌, refl, sym, ap, ◌∙◌, subst}
use mathlib.Core.Logic.{inl, ◌↔◌}
use mathlib.Core.Bool.{Bool, true, false, ◌&&◌, false≢true}
use mathlib.Core.List.{List, [], ◌∷◌, ◌++◌, map, head-eq_of_cons-eq, tail-eq_of_cons-eq}
use Prim.Native.Nat.{ℕ, zero, suc, ◌+◌, ◌*◌, ◌≤◌, ◌<◌}
use native.Mathlib.Nat.{not-suc-le-zero, zero-mul, suc-mul}
use native.Mathlib.Omega.{arith}
use lib.Dec.{ltb}
use lib.ListN.{length, length-append, length-map}
use borrow.Author.Tests.{ltb-true, lt-ltb}
use Rattle.std.specs.Prelude.{if◌then◌else◌}
use Rattle.basics.specs.Folds.{fold_if}
use Rattle.basics.specs.Lists.{Each, Apart, In}
use Rattle.basics.proofs.Tests.{and_parts, and_of, by_test, if_either}
use Rattle.basics.proofs.Lists.{each_map, each_all, each_append, each_in, apart_append, in_left, in_right, no_longer, map_each, map_in, map_apart}
use Rattle.basics.proofs.Folds.{fold_zero, fold_yes, fold_no, fold_same, fold_keeps, fold_has, fold_through}
use Rattle.graph.specs.Graph.{Graph, step}
use Rattle.graph.specs.Readings.{Transition, transition, reads_from, is_reading, count_from, readings}
use Rattle.graph.proofs.Walks.{position_of, step_parts}

-- ---- lists joined over the numbers that pass a test

abbrev joined : {A : Type 0} → (ℕ → Bool) → (ℕ → List A) → ℕ → List A
joined {A} p f n = fold_if {A = List A} [] ◌++◌ p f n

module _ {A : Type 0} (p : ℕ → Bool) (f : ℕ → List A) where
  joined_each : (P : A → Type 0) (n : ℕ) → ((i : ℕ) → i < n → p i ≡ true → Each P (f i)) → Each P (joined p f n)
  joined_each P n h = fold_keeps [] ◌++◌ (Each P) tt (λ xs ys. each_append P xs ys) p f n h

  joined_in : (a : A) (n i : ℕ) → i < n → p i ≡ true → In a (f i) → In a (joined p f n)
  joined_in a n i l e m = fold_has [] ◌++◌ (In a) (λ xs ys. in_left a xs ys) (λ xs ys. in_right a xs ys) p f n i l e m

  joined_apart : ((i : ℕ) → Apart (f i)) → ((i j : ℕ) → i < j → Each (λ (x : A). Each (λ (y : A). x ≡ y → ⊥) (f j)) (f i)) → (n : ℕ) → Apart (joined p f n)
  joined_apart a d zero = subst Apart (sym (fold_zero [] ◌++◌ p f)) tt
  joined_apart a d (suc n) =
      let r = joined_apart a d n in
      by_test (p n)
      (λ e. subst Apart (sym (fold_yes [] ◌++◌ p f n e)) (apart_append (joined p f n) (f n) r (a n) (joined_each (λ (x : A). Each (λ (y : A). x ≡ y → ⊥) (f n)) n (λ i l q. d i n l))))
      (λ e. subst Apart (sym (fold_no [] ◌++◌ p f n e)) r)

-- ---- all readings

abbrev Reading : Type 0
Reading = List Transition

abbrev heads : Transition → List Reading → List Reading
heads t rs = map (λ (r : Reading). t ∷ r) rs

-- each of them after position i by each of n links
abbrev by_link : ℕ → ℕ → List Reading → List Reading
by_link i n rs = joined (λ k. true) (λ k. heads (transition i k) rs) n

sum_all : (m n : ℕ) → fold_if 0 ◌+◌ (λ k. true) (λ k. m) n ≡ n * m
sum_all m zero = fold_zero 0 ◌+◌ (λ k. true) (λ k. m) ∙ sym (zero-mul m)
sum_all m (suc n) = fold_yes 0 ◌+◌ (λ k. true) (λ k. m) n refl ∙ ap (λ (x : ℕ). x + m) (sum_all m n) ∙ sym (suc-mul n m)

by_link_length : (i n : ℕ) (rs : List Reading) → length (by_link i n rs) ≡ n * length rs
by_link_length i n rs =
    fold_through [] ◌++◌ 0 ◌+◌ length refl length-append (λ k. true) (λ k. heads (transition i k) rs) n
    ∙ fold_same 0 ◌+◌ (λ k. true) (λ k. true) (λ k. length (heads (transition i k) rs)) (λ k. length rs) n (λ k l. refl) (λ k l e. length-map rs (λ (r : Reading). transition i k ∷ r))
    ∙ sum_all (length rs) n

heads_not : (t q : Transition) → (t ≡ q → ⊥) → (r : Reading) (rs : List Reading) → Each (λ (y : Reading). (t ∷ r) ≡ y → ⊥) (heads q rs)
heads_not t q d r rs =
    map_each (λ (v : Reading). q ∷ v) (λ (y : Reading). (t ∷ r) ≡ y → ⊥) rs (each_all (λ (v : Reading). (t ∷ r) ≡ (q ∷ v) → ⊥) (λ v e. d (head-eq_of_cons-eq e)) rs)

heads_apart : (t : Transition) (rs : List Reading) → Apart rs → Apart (heads t rs)
heads_apart t rs a = map_apart (λ (r : Reading). t ∷ r) (λ (r : Reading). Unit {0}) (λ r q x y e. tail-eq_of_cons-eq e) rs a (each_all (λ (r : Reading). Unit {0}) (λ r. tt) rs)

by_link_apart : (i n : ℕ) (rs : List Reading) → Apart rs → Apart (by_link i n rs)
by_link_apart i n rs a =
    joined_apart (λ k. true) (λ k. heads (transition i k) rs) (λ k. heads_apart (transition i k) rs a)
    (λ k m l. map_each (λ (r : Reading). transition i k ∷ r) (λ (x : Reading). Each (λ (y : Reading). x ≡ y → ⊥) (heads (transition i m) rs)) rs
    (each_all (λ (r : Reading). Each (λ (y : Reading). (transition i k ∷ r) ≡ y → ⊥) (heads (transition i m) rs))
    (λ r. heads_not (transition i k) (transition i m) (λ e. let z : k ≡ m = ap (λ (t : Transition). t.link) e in omega arith) r rs) rs)) n

-- by different positions they differ
by_link_differ : (i n j m : ℕ) (rs qs : List Reading) → (i ≡ j → ⊥) → Each (λ (x : Reading). Each (λ (y : Reading). x ≡ y → ⊥) (by_link j m qs)) (by_link i n rs)
by_link_differ i n j m rs qs d =
    joined_each (λ k. true) (λ k. heads (transition i k) rs) (λ (x : Reading). Each (λ (y : Reading). x ≡ y → ⊥) (by_link j m qs)) n
    (λ k l e. map_each (λ (r : Reading). transition i k ∷ r) (λ (x : Reading). Each (λ (y : Reading). x ≡ y → ⊥) (by_link j m qs)) rs
    (each_all (λ (r : Reading). Each (λ (y : Reading). (transition i k ∷ r) ≡ y → ⊥) (by_link j m qs))
    (λ r. joined_each (λ h. true) (λ h. heads (transition j h) qs) (λ (y : Reading). (transition i k ∷ r) ≡ y → ⊥) m
    (λ h f x. heads_not (transition i k) (transition j h) (λ z. d (ap (λ (t : Transition). t.position) z)) r qs)) rs))

module _ (g : Graph) where
  -- the readings of the letters to come, at a state
  abbrev all : ℕ → List ℕ → List Reading
  all u [] = if g.last u then [] ∷ [] else []
  all u (b ∷ s) = joined (step g u b) (λ i. by_link i (g.links u i) (all i s)) (suc g.positions)

  all_length : (s : List ℕ) (u : ℕ) → length (all u s) ≡ count_from g u s
  all_length [] u = by_last (g.last u)
    where
      by_last : (t : Bool) → length {A = Reading} (if t then [] ∷ [] else []) ≡ (if t then 1 else 0)
      by_last true = refl
      by_last false = refl
  all_length (b ∷ s) u =
      fold_through [] ◌++◌ 0 ◌+◌ length refl length-append (step g u b) (λ i. by_link i (g.links u i) (all i s)) (suc g.positions)
      ∙ fold_same 0 ◌+◌ (step g u b) (step g u b) (λ i. length (by_link i (g.links u i) (all i s))) (λ i. g.links u i * count_from g i s) (suc g.positions) (λ i l. refl)
      (λ i l e. by_link_length i (g.links u i) (all i s) ∙ ap (λ (n : ℕ). g.links u i * n) (all_length s i))

  all_apart : (s : List ℕ) (u : ℕ) → Apart (all u s)
  all_apart [] u = if_either Apart ([] ∷ []) [] (g.last u) (λ e. (tt, tt)) (λ e. tt)
  all_apart (b ∷ s) u =
      joined_apart (step g u b) (λ i. by_link i (g.links u i) (all i s)) (λ i. by_link_apart i (g.links u i) (all i s) (all_apart s i))
      (λ i j l. by_link_differ i (g.links u i) j (g.links u j) (all i s) (all j s) (λ e. omega arith)) (suc g.positions)

  all_reads : (s : List ℕ) (u : ℕ) → Each (λ (r : Reading). reads_from g u s r ≡ true) (all u s)
  all_reads [] u = if_either (Each (λ (r : Reading). reads_from g u [] r ≡ true)) ([] ∷ []) [] (g.last u) (λ e. (e, tt)) (λ e. tt)
  all_reads (b ∷ s) u =
      joined_each (step g u b) (λ i. by_link i (g.links u i) (all i s)) (λ (r : Reading). reads_from g u (b ∷ s) r ≡ true) (suc g.positions)
      (λ i l e. joined_each (λ k. true) (λ k. heads (transition i k) (all i s)) (λ (r : Reading). reads_from g u (b ∷ s) r ≡ true) (g.links u i)
      (λ k m y. map_each (λ (r : Reading). transition i k ∷ r) (λ (r : Reading). reads_from g u (b ∷ s) r ≡ true) (all i s)
      (each_map (λ (r : Reading). reads_from g i s r ≡ true) (λ (r : Reading). reads_from g u (b ∷ s) (transition i k ∷ r) ≡ true)
      (λ r h. and_of (step g u b i && ltb k (g.links u i)) (reads_from g i s r) (and_of (step g u b i) (ltb k (g.links u i)) e (lt-ltb k (g.links u i) m)) h) (all i s) (all_reads s i))))

  all_in : (s : List ℕ) (u : ℕ) (r : Reading) → reads_from g u s r ≡ true → In r (all u s)
  all_in [] u [] h = if_either (In []) ([] ∷ []) [] (g.last u) (λ e. inl refl) (λ e. false≢true (sym e ∙ h))
  all_in [] u (t ∷ r) h = absurd (false≢true h)
  all_in (b ∷ s) u [] h = absurd (false≢true h)
  all_in (b ∷ s) u (t ∷ r) h =
      let i = t.position in
      let p = and_parts (step g u b i && ltb t.link (g.links u i)) (reads_from g i s r) h in
      let q = and_parts (step g u b i) (ltb t.link (g.links u i)) p.0 in
      let l = (position_of g i (step_parts g u b i q.0).0).1 in
      joined_in (step g u b) (λ j. by_link j (g.links u j) (all j s)) (t ∷ r) (suc g.positions) i (omega arith) q.0
      (joined_in (λ k. true) (λ k. heads (transition i k) (all i s)) (t ∷ r) (g.links u i) t.link (ltb-true t.link (g.links u i) q.1) refl
      (map_in (λ (v : Reading). t ∷ v) r (all i s) (all_in s i r p.1)))

  -- ---- what follows for a whole answer

  -- all readings stand in a list, each once, and there are as many as the count says
  pub readings_listed : (s : List ℕ) → (rs : List Reading) × Apart rs × ((r : Reading) → In r rs ↔ (is_reading g s r ≡ true)) × (length rs ≡ readings g s)
  readings_listed s = (all 0 s, all_apart s 0, λ r. (each_in (λ (q : Reading). is_reading g s q ≡ true) (all 0 s) (all_reads s 0) r, all_in s 0 r), all_length s 0)

  -- no list of different readings is longer
  pub readings_most : (s : List ℕ) (rs : List Reading) → Apart rs → Each (λ (r : Reading). is_reading g s r ≡ true) rs → length rs ≤ readings g s
  readings_most s rs d h =
      subst (λ (k : ℕ). length rs ≤ k) (all_length s 0)
      (no_longer rs (all 0 s) d (each_map (λ (r : Reading). is_reading g s r ≡ true) (λ (r : Reading). In r (all 0 s)) (all_in s 0) rs h))

  -- no more readings than any list of different things that they could be has
  pub readings_bound : (s : List ℕ) (n : ℕ) → ((rs : List Reading) → Apart rs → Each (λ (r : Reading). is_reading g s r ≡ true) rs → length rs ≤ n) → readings g s ≤ n
  readings_bound s n h = subst (λ (k : ℕ). k ≤ n) (all_length s 0) (h (all 0 s) (all_apart s 0) (all_reads s 0))

  pub reading_counts : (s : List ℕ) (r : Reading) → is_reading g s r ≡ true → 1 ≤ readings g s
  reading_counts s r h = readings_most s (r ∷ []) (tt, tt) (h, tt)

  pub two_count : (s : List ℕ) (r q : Reading) → is_reading g s r ≡ true → is_reading g s q ≡ true → (r ≡ q → ⊥) → 2 ≤ readings g s
  two_count s r q h k d = readings_most s (r ∷ (q ∷ [])) ((d, tt), (tt, tt)) (h, (k, tt))

  pub count_reading : (s : List ℕ) → 1 ≤ readings g s → (r : Reading) × (is_reading g s r ≡ true)
  count_reading s h = first (all 0 s) (all_reads s 0) (let e = all_length s 0 in omega arith)
    where
      first : (rs : List Reading) → Each (λ (r : Reading). is_reading g s r ≡ true) rs → 1 ≤ length rs → (r : Reading) × (is_reading g s r ≡ true)
      first [] k l = absurd (not-suc-le-zero l)
      first (r ∷ rs) k l = (r, k.0)

  -- where there are two or more, two differ
  pub record TwoReadings (s : List ℕ) : Type 0 where
    pub one : Reading
    pub other : Reading
    pub reads_one : is_reading g s one ≡ true
    pub reads_other : is_reading g s other ≡ true
    pub differ : one ≡ other → ⊥

  pub count_two : (s : List ℕ) → 2 ≤ readings g s → TwoReadings s
  count_two s h = two (all 0 s) (all_apart s 0) (all_reads s 0) (let e = all_length s 0 in omega arith)
    where
      two : (rs : List Reading) → Apart rs → Each (λ (r : Reading). is_reading g s r ≡ true) rs → 2 ≤ length rs → TwoReadings s
      two [] a k l = absurd (omega arith)
      two (r ∷ []) a k l = absurd (omega arith)
      two (r ∷ (q ∷ rs)) a k l = record { one = r; other = q; reads_one = k.0; reads_other = k.1.0; differ = a.0.0 }
