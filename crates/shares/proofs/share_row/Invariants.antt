-- The word has the numbers passed that share a letter with a. Assumes nothing.
use Rattle.std.proofs.Common.{◌≡◌, ◌&&◌, ℕ, ltb}
use Rattle.bits.specs.Bits.{has_bit}
use Rattle.alphabet.specs.Alphabet.{some_letter}
use Rattle.shares.specs.Tables.{held}
use Rattle.shares.proofs.share_row.Given as goal

abbrev pub invariant-loop-b : goal.invariant-loop-b
invariant-loop-b l = (j : ℕ) → has_bit l.row j ≡ (ltb j l.b && some_letter (held l.sets l.a j))
