-- What counts and credits have in common: a function that keeps the joining goes through a fold. Cutting a sum at a bound is one,
-- and so is a credit before the best. Assumes nothing.
use mathlib.Core.Path.{◌≡◌, refl, sym, ap, ◌∙◌}
use mathlib.Core.Logic.{⊎_elim}
use mathlib.Core.Bool.{Bool, true}
use Prim.Native.Nat.{ℕ, zero, suc, ◌+◌, ◌-◌, ◌*◌, ◌<◌, min, max}
use native.Mathlib.Nat.{mul-zero, mul-suc, zero-mul, add-mul}
use native.Mathlib.Omega.{arith}
use lib.IntN.{◌+ℤ◌, +ℤ_comm}
use Rattle.basics.specs.Folds.{fold_if, sum_if, most_if}
use Rattle.basics.proofs.Tests.{le_or_lt}
use Rattle.basics.proofs.Folds.{fold_same, fold_through, most_above}
use Rattle.graph.specs.Built.{lowered}
use Rattle.graph.specs.Readings.{Best, no_reading, earns, better, added}
use Rattle.graph.proofs.Best.{added_better, best_sum, best_sums}

-- ---- sums cut at a bound

cut_times : (c x y : ℕ) → min (min x c * y) c ≡ min (x * y) c
cut_times c x zero = ap (λ (z : ℕ). min z c) (mul-zero (min x c) ∙ sym (mul-zero x))
cut_times c x (suc y) =
    ⊎_elim (λ l. let e : min x c ≡ x = omega arith in ap (λ (z : ℕ). min (z * suc y) c) e)
    (λ l. omega (arith, mul-suc (min x c) y, mul-suc x y)) (le_or_lt x c)

module _ (c : ℕ) (p : ℕ → Bool) where
  pub sum_cut : (f h : ℕ → ℕ) (n : ℕ) → ((i : ℕ) → p i ≡ true → min (f i) c ≡ min (h i) c) → min (sum_if p f n) c ≡ min (sum_if p h n) c
  sum_cut f h n e =
      through f ∙ fold_same 0 (λ a b. min (a + b) c) p p (λ i. min (f i) c) (λ i. min (h i) c) n (λ i l. refl) (λ i l. e i) ∙ sym (through h)
    where
      through : (f : ℕ → ℕ) → min (sum_if p f n) c ≡ fold_if 0 (λ a b. min (a + b) c) p (λ i. min (f i) c) n
      through f = fold_through 0 ◌+◌ 0 (λ a b. min (a + b) c) (λ x. min x c) (omega arith) (λ a b. omega arith) p f n

  -- a cut sum times y, against the sum of what is times y
  pub sum_times : (f : ℕ → ℕ) (n x y : ℕ) → x ≡ min (sum_if p f n) c → min (x * y) c ≡ min (sum_if p (λ i. f i * y) n) c
  sum_times f n x y e =
      ap (λ (z : ℕ). min (z * y) c) e ∙ cut_times c (sum_if p f n) y
      ∙ ap (λ (z : ℕ). min z c) (fold_through 0 ◌+◌ 0 ◌+◌ (λ z. z * y) (zero-mul y) (λ a b. add-mul a b y) p f n)

-- ---- greatest sums

module _ (p : ℕ → Bool) (f : ℕ → ℕ) (n u : ℕ) (l : u < n) (h : p u ≡ true) where
  -- over a set that has a member
  most_next : most_if p (λ i. suc (f i)) n ≡ suc (most_if p f n)
  most_next =
      let less : most_if p (λ i. suc (f i)) n - 1 ≡ most_if p f n =
      fold_through 0 max 0 max (λ a. a - 1) (omega arith) (λ a b. omega arith) p (λ i. suc (f i)) n
      ∙ fold_same 0 max p p (λ i. suc (f i) - 1) f n (λ i l. refl) (λ i l e. omega arith) in
      omega (arith, less, most_above p (λ i. suc (f i)) n u l h)

  -- with what is to come after each, the best of some sums of m raised credits is the greatest of them
  pub best_added : (m : ℕ) (z : Best) → fold_if no_reading better p (λ i. added (lowered m (f i)) z) n ≡ added (lowered m (most_if p f n)) z
  best_added m no_reading = sym (fold_through 0 max no_reading better (λ a. no_reading) refl (λ a b. refl) p f n)
  best_added m (earns z) =
      fold_same no_reading better p p (λ i. earns (lowered m (f i) +ℤ z)) (λ i. added z (best_sum m (suc (f i)))) n (λ i l. refl) (λ i l e. ap earns (+ℤ_comm (lowered m (f i)) z))
      ∙ sym (fold_through no_reading better no_reading better (added z) refl (added_better z) p (λ i. best_sum m (suc (f i))) n)
      ∙ ap (added z) (sym (fold_through 0 max no_reading better (best_sum m) refl (best_sums m) p (λ i. suc (f i)) n) ∙ ap (best_sum m) most_next)
      ∙ ap earns (+ℤ_comm z (lowered m (most_if p f n)))
