-- The code's place to the two halves says which slots have a code below it. Assumes nothing.
use mathlib.Core.Path.{◌≡◌}
use Prim.Native.Nat.{ℕ, ◌+◌, ◌≤◌, ◌<◌}
use native.Mathlib.Omega.{arith}
use lib.Dec.{ltb}
use Rattle.basics.proofs.Tests.{same_less}
use Rattle.letters.specs.LetterSet.{code_at}
use Rattle.letters.proofs.Slots.{by_slot}
use Rattle.ranges.proofs.slots_below.Goals as goal

-- in both halves a slot is below n where its code is below the other one
in_halves : (n code i : ℕ) → (i < 96 → (i < n → 32 + i < code) × (32 + i < code → i < n)) → (96 ≤ i → (i < n → 64 + i < code) × (64 + i < code → i < n))
    → ltb i n ≡ ltb (code_at i) code
in_halves n code i low high =
    by_slot (ltb i n ≡ ltb (code_at i) code) i (λ h e. same_less i n (code_at i) code (λ x. omega (arith, (low h).0 x)) (λ x. (low h).1 (omega arith)))
    (λ h e. same_less i n (code_at i) code (λ x. omega (arith, (high h).0 x)) (λ x. (high h).1 (omega arith)))

pub returns-in-0-to-127 : goal.returns-in-0-to-127
returns-in-0-to-127 c i l = in_halves _ _ i (λ h. omega (arith, c.saturating_sub.ensures)) (λ h. omega (arith, c.saturating_sub.ensures))

pub returns-in-128-to-159 : goal.returns-in-128-to-159
returns-in-128-to-159 c i l = in_halves _ _ i (λ h. omega arith) (λ h. omega arith)

pub returns-in_default : goal.returns-in_default
returns-in_default c i l = in_halves _ _ i (λ h. omega arith) (λ h. omega arith)
