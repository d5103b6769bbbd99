-- Lists as collections: each entry, entries that differ, membership, and how long a list of different things can be.
-- A list of different entries that all stand in another list is no longer than that one (take each off in turn); the
-- pigeonhole law is the case of the numbers below n. Assumes nothing.
use mathlib.Core.Path.{◌≡◌, refl, sym, ap, ◌∙◌, subst}
use mathlib.Core.Logic.{inl, inr, ⊎_elim}
use mathlib.Core.Bool.{true, false≢true}
use mathlib.Core.List.{List, [], ◌∷◌, ◌++◌, map}
use Prim.Native.Nat.{ℕ, zero, suc, ◌≤◌, ◌<◌, zero-le, suc-le-suc}
use native.Mathlib.Nat.{not-suc-le-zero, le_of_suc-le-suc}
use native.Mathlib.Omega.{arith}
use lib.Dec.{eqb}
use lib.ListN.{length, get_or, take, set, replicate, length-map}
use borrow.Author.Tests.{eqb-true}
use Rattle.basics.specs.Bytes.{is_in}
use Rattle.basics.specs.Lists.{Each, Apart, In, end_of}
use Rattle.basics.proofs.Tests.{by_equal, or_cases}

module _ {A : Type 0} where
  pub each_map : (P Q : A → Type 0) → ((x : A) → P x → Q x) → (xs : List A) → Each P xs → Each Q xs
  each_map P Q f [] h = tt
  each_map P Q f (x ∷ xs) h = (f x h.0, each_map P Q f xs h.1)

  pub each_all : (P : A → Type 0) → ((x : A) → P x) → (xs : List A) → Each P xs
  each_all P h [] = tt
  each_all P h (x ∷ xs) = (h x, each_all P h xs)

  pub each_append : (P : A → Type 0) (xs ys : List A) → Each P xs → Each P ys → Each P (xs ++ ys)
  each_append P [] ys h k = k
  each_append P (x ∷ xs) ys h k = (h.0, each_append P xs ys h.1 k)

  pub each_in : (P : A → Type 0) (xs : List A) → Each P xs → (a : A) → In a xs → P a
  each_in P [] h a m = absurd m
  each_in P (x ∷ xs) h a (inl e) = subst P (sym e) h.0
  each_in P (x ∷ xs) h a (inr m) = each_in P xs h.1 a m

  -- two lists of different entries, with none in both
  pub apart_append : (xs ys : List A) → Apart xs → Apart ys → Each (λ (x : A). Each (λ (y : A). x ≡ y → ⊥) ys) xs → Apart (xs ++ ys)
  apart_append [] ys a b d = b
  apart_append (x ∷ xs) ys a b d = (each_append (λ (y : A). x ≡ y → ⊥) xs ys a.0 d.0, apart_append xs ys a.1 b d.1)

  pub in_left : (a : A) (xs ys : List A) → In a xs → In a (xs ++ ys)
  in_left a [] ys m = absurd m
  in_left a (x ∷ xs) ys (inl e) = inl e
  in_left a (x ∷ xs) ys (inr m) = inr (in_left a xs ys m)

  pub in_right : (a : A) (xs ys : List A) → In a ys → In a (xs ++ ys)
  in_right a [] ys m = m
  in_right a (x ∷ xs) ys m = inr (in_right a xs ys m)

  pub end_append : (a : A) (xs ys : List A) → end_of a (xs ++ ys) ≡ end_of (end_of a xs) ys
  end_append a [] ys = refl
  end_append a (x ∷ xs) ys = end_append x xs ys

  -- where the first k entries lead
  pub end_take : (a d : A) (k : ℕ) (xs : List A) → k ≤ length xs → end_of a (take k xs) ≡ get_or (a ∷ xs) k d
  end_take a d zero xs l = refl
  end_take a d (suc k) [] l = absurd (not-suc-le-zero l)
  end_take a d (suc k) (x ∷ xs) l = end_take x d k xs (le_of_suc-le-suc l)

  -- each entry, and that entries differ, by their indices
  pub each_at : (P : A → Type 0) (d : A) (xs : List A) → ((i : ℕ) → i < length xs → P (get_or xs i d)) → Each P xs
  each_at P d [] h = tt
  each_at P d (x ∷ xs) h = (h 0 (suc-le-suc zero-le), each_at P d xs (λ i l. h (suc i) (suc-le-suc l)))

  pub apart_at : (d : A) (xs : List A) → ((i j : ℕ) → i < j → j < length xs → get_or xs i d ≡ get_or xs j d → ⊥) → Apart xs
  apart_at d [] h = tt
  apart_at d (x ∷ xs) h =
      (each_at (λ (y : A). x ≡ y → ⊥) d xs (λ i l. h 0 (suc i) (suc-le-suc zero-le) (suc-le-suc l)), apart_at d xs (λ i j l m. h (suc i) (suc j) (suc-le-suc l) (suc-le-suc m)))

  -- ---- no longer than what holds it

  abbrev remove : (a : A) (xs : List A) → In a xs → List A
  remove a [] m = []
  remove a (x ∷ xs) (inl e) = xs
  remove a (x ∷ xs) (inr m) = x ∷ remove a xs m

  remove_length : (a : A) (xs : List A) (m : In a xs) → length xs ≡ suc (length (remove a xs m))
  remove_length a [] m = absurd m
  remove_length a (x ∷ xs) (inl e) = refl
  remove_length a (x ∷ xs) (inr m) = ap suc (remove_length a xs m)

  remove_in : (a b : A) → (a ≡ b → ⊥) → (xs : List A) (m : In a xs) → In b xs → In b (remove a xs m)
  remove_in a b d [] m k = absurd k
  remove_in a b d (x ∷ xs) (inl e) (inl k) = absurd (d (e ∙ sym k))
  remove_in a b d (x ∷ xs) (inl e) (inr k) = k
  remove_in a b d (x ∷ xs) (inr m) (inl k) = inl k
  remove_in a b d (x ∷ xs) (inr m) (inr k) = inr (remove_in a b d xs m k)

  each_remove : (a : A) (xs : List A) (m : In a xs) (rs : List A) → Each (λ (y : A). a ≡ y → ⊥) rs → Each (λ (y : A). In y xs) rs → Each (λ (y : A). In y (remove a xs m)) rs
  each_remove a xs m [] d h = tt
  each_remove a xs m (r ∷ rs) d h = (remove_in a r d.0 xs m h.0, each_remove a xs m rs d.1 h.1)

  pub no_longer : (rs xs : List A) → Apart rs → Each (λ (y : A). In y xs) rs → length rs ≤ length xs
  no_longer [] xs a h = zero-le
  no_longer (r ∷ rs) xs a h =
      let z = no_longer rs (remove r xs h.0) a.1 (each_remove r xs h.0 rs a.0 h.1) in
      let e = remove_length r xs h.0 in
      omega arith

-- what holds of each entry holds of a number that is one of them by the test
pub is_in_each : (P : ℕ → Type 0) (xs : List ℕ) (a : ℕ) → Each P xs → is_in a xs ≡ true → P a
is_in_each P [] a h e = absurd (false≢true e)
is_in_each P (x ∷ xs) a h e =
    let rest = is_in_each P xs a h.1 in
    ⊎_elim (λ z. subst P (sym (eqb-true a x z)) h.0) rest (or_cases (eqb a x) (is_in a xs) e)

-- ---- entries by their number

module _ {A : Type 0} where
  -- an entry of a list of equal entries, or past its end
  pub alike : (P : A → Type 0) (n : ℕ) (a d : A) → P a → P d → (i : ℕ) → P (get_or (replicate n a) i d)
  alike P zero a d p q i = q
  alike P (suc n) a d p q zero = p
  alike P (suc n) a d p q (suc i) = alike P n a d p q i

  -- within a list what stands for a missing entry plays no part
  pub within_any : (xs : List A) (i : ℕ) (a b : A) → i < length xs → get_or xs i a ≡ get_or xs i b
  within_any [] i a b l = absurd (not-suc-le-zero l)
  within_any (x ∷ xs) zero a b l = refl
  within_any (x ∷ xs) (suc i) a b l = within_any xs i a b (le_of_suc-le-suc l)

  -- an entry more at the end leaves all others
  pub last_other : (xs : List A) (a d : A) (i : ℕ) → (i ≡ length xs → ⊥) → get_or (xs ++ (a ∷ [])) i d ≡ get_or xs i d
  last_other [] a d zero h = absurd (h refl)
  last_other [] a d (suc i) h = refl
  last_other (x ∷ xs) a d zero h = refl
  last_other (x ∷ xs) a d (suc i) h = last_other xs a d i (λ e. h (ap suc e))

  -- a store keeps what holds of every entry
  pub set_keeps : (P : A → Type 0) (xs : List A) (i : ℕ) (a d : A) → P a → ((j : ℕ) → P (get_or xs j d)) → (j : ℕ) → P (get_or (set xs i a) j d)
  set_keeps P [] i a d p h j = h j
  set_keeps P (x ∷ xs) zero a d p h zero = p
  set_keeps P (x ∷ xs) zero a d p h (suc j) = h (suc j)
  set_keeps P (x ∷ xs) (suc i) a d p h zero = h 0
  set_keeps P (x ∷ xs) (suc i) a d p h (suc j) = set_keeps P xs i a d p (λ k. h (suc k)) j

pub zeros : (n i : ℕ) → ◌≡◌ {A = ℕ} (get_or (replicate n 0) i 0) 0
zeros n i = alike (λ (x : ℕ). x ≡ 0) n 0 0 refl refl i

-- ---- through a function

-- `search (needs, length_mapped)` finds the length of an array of structs by value
pub length_mapped : (A B : Type 0) (f : A → B) (xs : List A) (n : ℕ) → length (map f xs) ≡ n → length xs ≡ n
length_mapped A B f xs n h = sym (length-map xs f) ∙ h

module _ {A B : Type 0} (f : A → B) where
  pub map_each : (P : B → Type 0) (xs : List A) → Each (λ (x : A). P (f x)) xs → Each P (map f xs)
  map_each P [] h = tt
  map_each P (x ∷ xs) h = (h.0, map_each P xs h.1)

  pub map_in : (a : A) (xs : List A) → In a xs → In (f a) (map f xs)
  map_in a [] m = absurd m
  map_in a (x ∷ xs) (inl e) = inl (ap f e)
  map_in a (x ∷ xs) (inr m) = inr (map_in a xs m)

  -- entries that f tells apart
  pub map_apart : (P : A → Type 0) → ((x y : A) → P x → P y → f x ≡ f y → x ≡ y) → (xs : List A) → Apart xs → Each P xs → Apart (map f xs)
  map_apart P told [] a h = tt
  map_apart P told (x ∷ xs) a h = (rest xs a.0 h.1, map_apart P told xs a.1 h.1)
    where
      rest : (ys : List A) → Each (λ (y : A). x ≡ y → ⊥) ys → Each P ys → Each (λ (y : B). f x ≡ y → ⊥) (map f ys)
      rest [] d k = tt
      rest (y ∷ ys) d k = (λ e. d.0 (told x y h.0 k.0 e), rest ys d.1 k.1)

  pub map_end : (a : A) (xs : List A) → end_of (f a) (map f xs) ≡ f (end_of a xs)
  map_end a [] = refl
  map_end a (x ∷ xs) = map_end x xs

-- ---- the pigeonhole law

abbrev below : ℕ → List ℕ
below zero = []
below (suc n) = n ∷ below n

below_length : (n : ℕ) → length (below n) ≡ n
below_length zero = refl
below_length (suc n) = ap suc (below_length n)

in_below : (n y : ℕ) → y < n → In y (below n)
in_below zero y h = absurd (not-suc-le-zero h)
in_below (suc n) y h = let less = in_below n y in by_equal y n (λ e. inl e) (λ d. inr (less (omega arith)))

-- different things, each with a number of its own below n, are at most n
pub pigeon : {A : Type 0} (number : A → ℕ) (P : A → Type 0) (n : ℕ) → ((x : A) → P x → number x < n) → ((x y : A) → P x → P y → number x ≡ number y → x ≡ y)
    → (xs : List A) → Apart xs → Each P xs → length xs ≤ n
pigeon {A} number P n low told xs a h =
    let m = no_longer (map number xs) (below n) (map_apart number P told xs a h)
    (map_each number (λ (y : ℕ). In y (below n)) xs (each_map P (λ (x : A). In (number x) (below n)) (λ x p. in_below n (number x) (low x p)) xs h)) in
    let l = length-map xs number in
    let k = below_length n in
    omega arith
