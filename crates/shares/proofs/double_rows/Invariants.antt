-- The rows passed are filled. Assumes nothing.
use Rattle.std.proofs.Common.{◌≡◌, ℕ, ◌<◌, get_or, length}
use Rattle.bits.specs.Bits.{has_bit}
use Rattle.shares.specs.Tables.{is_doubled}
use Rattle.shares.proofs.double_rows.Given as goal

abbrev pub invariant-loop-u : goal.invariant-loop-u
invariant-loop-u l = (length l.rows ≡ 61) × ((v i : ℕ) → v < l.u → has_bit (get_or l.rows v 0) i ≡ is_doubled l.b.follow l.more v i)
