-- The code's half says what to take off. Assumes nothing.
use mathlib.Core.Path.{sym}
use Prim.Native.Nat.{◌≤◌}
use native.Mathlib.Omega.{arith}
use Rattle.letters.proofs.Slots.{by_half, slot_low, slot_high}
use Rattle.letters.proofs.slot_of.Goals as goal

pub overflow_sub-result : goal.overflow_sub-result
overflow_sub-result c = let code = c.args.code in let first : 32 ≤ code = by_half (32 ≤ code) code c.requires (λ a b e. a) (λ a b e. omega arith) in omega arith

pub returns-then-code-lt128 : goal.returns-then-code-lt128
returns-then-code-lt128 c = sym (slot_low c.args.code (omega arith))

pub returns-else-code-lt128 : goal.returns-else-code-lt128
returns-else-code-lt128 c = sym (slot_high c.args.code (omega arith))
