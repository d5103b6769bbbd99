-- The first u rows are entered. Assumes nothing.
use Rattle.std.proofs.Common.{◌≡◌, length, get_or}
use Rattle.bits.specs.Bits.{has_bit}
use Rattle.columns.specs.Tables.{Columns}
use Rattle.columns.proofs.states_before.Given as goal

abbrev pub invariant-loop-u : goal.invariant-loop-u
invariant-loop-u l = (length l.table ≡ 61) × Columns (λ v i. has_bit (get_or l.b.follow v 0) i) l.u l.table
