-- The slot is past the word or below it. Assumes nothing.
use mathlib.Core.Path.{sym, ◌∙◌}
use Prim.Native.Nat.{◌+◌}
use native.Mathlib.Omega.{arith}
use borrow.Author.Tests.{ne_eqb}
use Rattle.bits.proofs.Laws.{has_none}
use Rattle.ranges.proofs.bit.Goals as goal

pub returns-in_default : goal.returns-in_default
returns-in_default c j h = let a = c.args in has_none j ∙ sym (ne_eqb a.slot (a.base + j) (λ e. omega arith))

pub returns-in_default-2 : goal.returns-in_default-2
returns-in_default-2 c j h = let a = c.args in has_none j ∙ sym (ne_eqb a.slot (a.base + j) (λ e. omega arith))
