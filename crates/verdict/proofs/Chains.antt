-- Chains of steps over any type, and short ones: a chain that comes to a node twice can be cut there, so that every way has a
-- chain with no node twice, and where the nodes are told apart by numbers below n that has at most n steps. Assumes nothing.
use mathlib.Core.Path.{◌≡◌, refl, sym, ap, ◌∙◌, subst}
use mathlib.Core.Logic.{◌⊎◌, inl, inr, ⊎_elim}
use mathlib.Core.List.{List, [], ◌∷◌, ◌++◌, map}
use Prim.Native.Nat.{ℕ, ◌≤◌, ◌<◌, zero-le}
use lib.ListN.{length}
use Rattle.basics.specs.Lists.{Each, Apart, In, end_of, Chain}
use Rattle.basics.proofs.Tests.{by_equal}
use Rattle.basics.proofs.Lists.{end_append, pigeon}

module _ {A : Type 0} (E : A → A → Type 0) where
  pub record Way (a z : A) : Type 0 where
    pub nodes : List A
    pub goes : Chain E a nodes
    pub ends : end_of a nodes ≡ z

  -- with at most n steps
  pub record Short (n : ℕ) (a z : A) : Type 0 where
    pub nodes : List A
    pub goes : Chain E a nodes
    pub ends : end_of a nodes ≡ z
    pub few : length nodes ≤ n

  chain_append : (a : A) (c d : List A) → Chain E a c → Chain E (end_of a c) d → Chain E a (c ++ d)
  chain_append a [] d h k = k
  chain_append a (x ∷ c) d h k = (h.0, chain_append x c d h.1 k)

  -- what a step brings holds of each node after the first
  pub chain_each : (P : A → Type 0) → ((x y : A) → E x y → P y) → (a : A) (c : List A) → Chain E a c → Each P c
  chain_each P f a [] h = tt
  chain_each P f a (x ∷ c) h = (f a x h.0, chain_each P f x c h.1)

  -- what a step keeps holds at the end if it does at the beginning
  pub chain_end : (P : A → Type 0) → ((x y : A) → E x y → P x → P y) → (a : A) (c : List A) → Chain E a c → P a → P (end_of a c)
  chain_end P f a [] h p = p
  chain_end P f a (x ∷ c) h p = chain_end P f x c h.1 (f a x h.0 p)

  pub way_end : (P : A → Type 0) → ((x y : A) → E x y → P x → P y) → (a z : A) → Way a z → P a → P z
  way_end P f a z w p = subst P w.ends (chain_end P f a w.nodes w.goes p)

  pub way_step : (a z : A) → E a z → Way a z
  way_step a z e = record { nodes = z ∷ []; goes = (e, tt); ends = refl }

  pub way_join : (a b z : A) → Way a b → Way b z → Way a z
  way_join a b z v w = record {
    nodes = v.nodes ++ w.nodes;
    goes = chain_append a v.nodes w.nodes v.goes (subst (λ (x : A). Chain E x w.nodes) (sym v.ends) w.goes);
    ends = end_append a v.nodes w.nodes ∙ ap (λ (x : A). end_of x w.nodes) v.ends ∙ w.ends;
  }

  -- ---- short ways: every node after the first has P, and those with P are told apart by numbers below n

  module _ (number : A → ℕ) (P : A → Type 0) (n : ℕ) (low : (x : A) → P x → number x < n) (told : (x y : A) → P x → P y → number x ≡ number y → x ≡ y)
      (steps : (x y : A) → E x y → P y) where
    -- a chain with no node twice
    record Simple (a z : A) : Type 0 where
      nodes : List A
      goes : Chain E a nodes
      ends : end_of a nodes ≡ z
      apart : Apart (a ∷ nodes)

    find : (a : A) → P a → (xs : List A) → Each P xs → In a xs ⊎ Each (λ (y : A). a ≡ y → ⊥) xs
    find a p [] h = inr tt
    find a p (x ∷ xs) h =
        let rest = find a p xs h.1 in
        by_equal (number a) (number x) (λ e. inl (inl (told a x p h.0 e))) (λ d. ⊎_elim (λ m. inl (inr m)) (λ k. inr (λ e. d (ap number e), k)) rest)

    -- from a node on it to its end
    cut : (a x z : A) (c : List A) → Chain E x c → end_of x c ≡ z → Apart (x ∷ c) → In a (x ∷ c) → Simple a z
    cut a x z [] h e d (inl q) = subst (λ (y : A). Simple y z) (sym q) (record { nodes = []; goes = h; ends = e; apart = d })
    cut a x z (y ∷ c) h e d (inl q) = subst (λ (w : A). Simple w z) (sym q) (record { nodes = y ∷ c; goes = h; ends = e; apart = d })
    cut a x z [] h e d (inr m) = absurd m
    cut a x z (y ∷ c) h e d (inr m) = cut a y z c h.1 e d.1 m

    simple : (a : A) → P a → (c : List A) → Chain E a c → Simple a (end_of a c)
    simple a p [] h = record { nodes = []; goes = tt; ends = refl; apart = (tt, tt) }
    simple a p (x ∷ c) h =
        let q = steps a x h.0 in
        let s = simple x q c h.1 in
        ⊎_elim (λ m. cut a x (end_of x c) s.nodes s.goes s.ends s.apart m)
        (λ d. record { nodes = x ∷ s.nodes; goes = (h.0, s.goes); ends = s.ends; apart = (d, s.apart) })
        (find a p (x ∷ s.nodes) (q, chain_each P steps x s.nodes s.goes))

    short_chain : (a : A) (c : List A) → Chain E a c → Short n a (end_of a c)
    short_chain a [] h = record { nodes = []; goes = tt; ends = refl; few = zero-le }
    short_chain a (x ∷ c) h =
        let q = steps a x h.0 in
        let s = simple x q c h.1 in
        record { nodes = x ∷ s.nodes; goes = (h.0, s.goes); ends = s.ends; few = pigeon number P n low told (x ∷ s.nodes) s.apart (q, chain_each P steps x s.nodes s.goes) }

    pub short : (a z : A) → Way a z → Short n a z
    short a z w = subst (λ (y : A). Short n a y) w.ends (short_chain a w.nodes w.goes)

-- a function that takes steps to steps takes chains to chains
pub chain_map : {A B : Type 0} (E : A → A → Type 0) (F : B → B → Type 0) (f : A → B) → ((x y : A) → E x y → F (f x) (f y)) → (a : A) (c : List A) → Chain E a c → Chain F (f a) (map f c)
chain_map E F f k a [] h = tt
chain_map E F f k a (x ∷ c) h = (k a x h.0, chain_map E F f k x c h.1)
