-- No position is passed yet. Assumes nothing.
use mathlib.Core.Path.{sym, ap, ◌∙◌}
use mathlib.Core.Bool.{Bool, ◌&&◌}
use Prim.Native.Nat.{zero-le}
use borrow.Author.Tests.{le-ltb}
use Rattle.bits.proofs.Laws.{has_none}
use Rattle.letters.specs.LetterSet.{has_letter, set_at}
use Rattle.columns.proofs.holders_of_code.Goals as goal

pub loop-i-init : goal.loop-i-init
loop-i-init c j = has_none j ∙ sym (ap (λ (t : Bool). t && has_letter (set_at c.args.b.now.letters j) c.args.code) (le-ltb j 0 zero-le))
