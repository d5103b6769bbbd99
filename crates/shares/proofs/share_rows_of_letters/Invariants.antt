-- The rows passed have the numbers passed that share a letter with theirs. Assumes nothing.
use Rattle.std.proofs.Common.{◌≡◌, ◌&&◌, ℕ, ◌<◌, ltb, get_or, length}
use Rattle.bits.specs.Bits.{has_bit}
use Rattle.alphabet.specs.Alphabet.{some_letter}
use Rattle.shares.specs.Tables.{held}
use Rattle.shares.proofs.share_rows_of_letters.Given as goal

abbrev pub invariant-loop-a : goal.invariant-loop-a
invariant-loop-a l = (length l.rows ≡ 61) × ((i j : ℕ) → i < l.a → has_bit (get_or l.rows i 0) j ≡ (ltb j l.a && some_letter (held l.b.letters i j)))
