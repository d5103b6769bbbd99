-- A number as the set of the places of its binary digits that are 1: what the contracts cite.
use Rattle.std.specs.Prelude.{◌≡◌, Bool, false, ℕ, ◌/◌, ◌%◌, ◌^◌, ◌<◌, eqb, Option, None, Some}
use Rattle.basics.specs.Folds.{LeastOf, Less}

-- is i in the set m
unfoldable pub has_bit : ℕ → ℕ → Bool
has_bit m i = eqb (m / 2 ^ i % 2) 1

-- t is the least member of m
abbrev pub Least : ℕ → ℕ → Type 0
Least m t = LeastOf (has_bit m) t

-- the least member t of the set m is taken out, and n is what is left; has m says of each number whether it is in m
pub record Taken {S : Type 0} (has : S → ℕ → Bool) (weight : S → ℕ) (m : S) (t : ℕ) (n : S) : Type 0 where
  pub least : LeastOf (has m) t
  pub others : Less (has m) t (has n)
  pub fewer : weight n < weight m

-- what taking the least member gives: it and what is left, or None
abbrev pub TakesLeast : {S : Type 0} → (S → ℕ → Bool) → (S → ℕ) → S → Option (ℕ × S) → Type 0
TakesLeast has weight m None = (i : ℕ) → has m i ≡ false
TakesLeast has weight m (Some (t, n)) = Taken has weight m t n

-- the same of a walk, which stands at m before a step and at n after it
abbrev pub Gives : {S : Type 0} → (S → ℕ → Bool) → (S → ℕ) → S → Option ℕ → S → Type 0
Gives has weight m None n = (i : ℕ) → has m i ≡ false
Gives has weight m (Some t) n = Taken has weight m t n
