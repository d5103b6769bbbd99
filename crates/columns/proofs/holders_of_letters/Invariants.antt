-- The first i rows are entered, those of wide sets by what they lack, and in the end these are flipped. Assumes nothing.
use Rattle.std.proofs.Common.{◌≡◌, length}
use Rattle.columns.specs.Tables.{Columns}
use Rattle.columns.proofs.Wide.{is_entered, WideBelow}
use Rattle.columns.proofs.holders_of_letters.Given as goal

abbrev pub invariant-loop-i : goal.invariant-loop-i
invariant-loop-i l = (length l.table ≡ 256) × WideBelow l.i l.wide × Columns (is_entered l.b.letters l.wide) l.i l.table
