-- Folds over the numbers below n that pass a test p, in rising order.
use Rattle.std.specs.Prelude.{◌≡◌, Bool, true, false, not, ◌&&◌, ◌||◌, List, [], ◌∷◌, ◌++◌, ℕ, zero, suc, ◌+◌, ◌<◌, max, eqb, if◌then◌else◌}

unfoldable pub fold_if : {A : Type 0} → A → (A → A → A) → (ℕ → Bool) → (ℕ → A) → ℕ → A
fold_if none join p f zero = none
fold_if none join p f (suc n) = if p n then join (fold_if none join p f n) (f n) else fold_if none join p f n

-- the sum of f over them
abbrev pub sum_if : (ℕ → Bool) → (ℕ → ℕ) → ℕ → ℕ
sum_if p f n = fold_if 0 ◌+◌ p f n

-- the greatest f over them, 0 if there is none
abbrev pub most_if : (ℕ → Bool) → (ℕ → ℕ) → ℕ → ℕ
most_if p f n = fold_if 0 max p f n

-- does f hold of one of them
abbrev pub any_if : (ℕ → Bool) → (ℕ → Bool) → ℕ → Bool
any_if p f n = fold_if false ◌||◌ p f n

-- all of them
abbrev pub list_if : (ℕ → Bool) → ℕ → List ℕ
list_if p n = fold_if [] ◌++◌ p (λ i. i ∷ []) n

-- q has the members of p but t
abbrev pub Less : (ℕ → Bool) → ℕ → (ℕ → Bool) → Type 0
Less p t q = (j : ℕ) → q j ≡ (p j && not (eqb t j))

-- t is the least number that passes p
pub record LeastOf (p : ℕ → Bool) (t : ℕ) : Type 0 where
  pub here : p t ≡ true
  pub none : (j : ℕ) → j < t → p j ≡ false
