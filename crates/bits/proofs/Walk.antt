-- A loop that walks a set, `for t in members(set) { .. }`, at a turn and at its end. At a turn the value over what is left is the
-- least member's, joined with the value over the rest. Assumes nothing.
use mathlib.Core.Path.{◌≡◌}
use mathlib.Core.Bool.{Bool, true, false, ◌&&◌, ◌||◌}
use Prim.Native.Nat.{ℕ, ◌+◌, ◌^◌, ◌<◌, max}
use lib.Dec.{eqb}
use Rattle.basics.specs.Folds.{fold_if, sum_if, most_if, any_if}
use Rattle.basics.proofs.Folds.{fold_none, sum_least, most_least, any_least, any_one}
use Rattle.bits.specs.Bits.{has_bit, Taken}
use Rattle.bits.proofs.Laws.{member_below}

-- a turn: t is the least member of m, r has the others, and all are below k
module _ (k m t r : ℕ) (h : m < 2 ^ k) (s : Taken has_bit (λ (m : ℕ). m) m t r) where
  pub sum_turn : (f : ℕ → ℕ) → sum_if (has_bit m) f k ≡ f t + sum_if (has_bit r) f k
  sum_turn f = sum_least (has_bit m) (has_bit r) t s.others s.least.here s.least.none f k (member_below k m t h s.least.here)

  pub most_turn : (f : ℕ → ℕ) → most_if (has_bit m) f k ≡ max (f t) (most_if (has_bit r) f k)
  most_turn f = most_least (has_bit m) (has_bit r) t s.others s.least.here s.least.none f k (member_below k m t h s.least.here)

  pub any_turn : (f : ℕ → Bool) → any_if (has_bit m) f k ≡ (f t || any_if (has_bit r) f k)
  any_turn f = any_least (has_bit m) (has_bit r) t s.others s.least.here s.least.none f k (member_below k m t h s.least.here)

-- the end: nothing is left, for each of the three
pub walk_end : {A : Type 0} (none : A) (join : A → A → A) (f : ℕ → A) (k m : ℕ) → ((i : ℕ) → has_bit m i ≡ false) → fold_if none join (has_bit m) f k ≡ none
walk_end none join f k m z = fold_none none join (has_bit m) f k (λ i l. z i)

-- a loop that keeps the members that pass f is the walk of `any` for each j, with this in the end
pub kept : (k m : ℕ) → m < 2 ^ k → (f : ℕ → Bool) (j : ℕ) → any_if (has_bit m) (λ i. f i && eqb i j) k ≡ (has_bit m j && f j)
kept k m h f j = any_one (has_bit m) f k j (member_below k m j h)

-- a loop that looks for a member: those of m that are not left have Q
pub record Passed (m left : ℕ) (Q : ℕ → Type 0) : Type 0 where
  pub within : (j : ℕ) → has_bit left j ≡ true → has_bit m j ≡ true
  pub done : (j : ℕ) → has_bit m j ≡ true → has_bit left j ≡ false → Q j
