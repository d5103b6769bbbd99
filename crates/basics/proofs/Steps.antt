-- What every step from some number on keeps is kept. Assumes nothing.
use mathlib.Core.Path.{◌≡◌, ap, ◌∙◌}
use Prim.Native.Nat.{ℕ, zero, suc, ◌+◌, ◌-◌, ◌≤◌}
use native.Mathlib.Omega.{arith}

module _ {A : Type 0} (g : ℕ → A) (f : ℕ) (step : (n : ℕ) → f ≤ n → g (suc n) ≡ g n) where
  stays_by : (k : ℕ) → g (f + k) ≡ g f
  stays_by zero = let e : f + 0 ≡ f = omega arith in ap g e
  stays_by (suc k) = let e : f + suc k ≡ suc (f + k) = omega arith in ap g e ∙ step (f + k) (omega arith) ∙ stays_by k

  pub stays : (n : ℕ) → f ≤ n → g n ≡ g f
  stays n l = let e : n ≡ f + (n - f) = omega arith in ap g e ∙ stays_by (n - f)
