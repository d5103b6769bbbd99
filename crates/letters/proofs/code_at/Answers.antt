-- The slot's half says what to add. Assumes nothing.
use mathlib.Core.Path.{sym}
use native.Mathlib.Omega.{arith}
use Rattle.letters.proofs.Slots.{code_low, code_high}
use Rattle.letters.proofs.code_at.Goals as goal

pub returns-then-slot-lt96 : goal.returns-then-slot-lt96
returns-then-slot-lt96 c = sym (code_low c.args.slot (omega arith))

pub returns-else-slot-lt96 : goal.returns-else-slot-lt96
returns-else-slot-lt96 c = sym (code_high c.args.slot (omega arith))
