-- The word has the numbers passed that share a letter with a. Assumes nothing.
use mathlib.Core.Path.{sym, ap, ◌∙◌}
use mathlib.Core.Bool.{Bool, ◌&&◌}
use Prim.Native.Nat.{zero-le}
use borrow.Author.Tests.{le-ltb}
use Rattle.bits.proofs.Laws.{has_none}
use Rattle.alphabet.specs.Alphabet.{some_letter}
use Rattle.shares.specs.Tables.{held}
use Rattle.shares.proofs.share_row.Goals as goal

pub loop-b-init : goal.loop-b-init
loop-b-init c j = has_none j ∙ sym (ap (λ (t : Bool). t && some_letter (held c.args.sets.now c.args.a j)) (le-ltb j 0 zero-le))
