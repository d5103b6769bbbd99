-- A copy, and one byte more. Assumes nothing.
use native.Mathlib.Omega.{arith}
use Rattle.fields.proofs.Putting.{puts_then, puts_byte, puts_copied}
use Rattle.fields.proofs.put.Goals as goal

pub returns : goal.returns
returns c = puts_then (puts_copied c.args.text.now c.copy_from_slice.new.self c.args.out.now c.args.at (omega arith) c.copy_from_slice.ensures.after) (puts_byte _ _ _)
