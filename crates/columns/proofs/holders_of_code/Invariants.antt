-- The word has the positions passed that have the code. Assumes nothing.
use Rattle.std.proofs.Common.{◌≡◌, ◌&&◌, ℕ, ltb}
use Rattle.bits.specs.Bits.{has_bit}
use Rattle.letters.specs.LetterSet.{has_letter, set_at}
use Rattle.columns.proofs.holders_of_code.Given as goal

abbrev pub invariant-loop-i : goal.invariant-loop-i
invariant-loop-i l = (j : ℕ) → has_bit l.holders j ≡ (ltb j l.i && has_letter (set_at l.b.letters j) l.code)
