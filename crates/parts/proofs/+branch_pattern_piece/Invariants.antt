-- In both loops something is read so far, and sets of letters stay such. The measure is three for each byte, and a rank, so that it
-- falls where a callee begins with the same text. Assumes nothing.
use Rattle.std.proofs.Common.{◌+◌, ◌*◌, length}
use Rattle.set_table.specs.Tables.{LettersStay}
use Rattle.parsed.specs.Parsed.{memory}
use Rattle.parts.proofs.Folding.{pieces, branches, Sofar}
use Rattle.parts.proofs.+branch_pattern_piece.Given as goal

abbrev pub decreases-branch : goal.decreases-branch
decreases-branch l = 3 * length l.text.now + 1

abbrev pub decreases-pattern : goal.decreases-pattern
decreases-pattern l = 3 * length l.text.now + 2

abbrev pub decreases-piece : goal.decreases-piece
decreases-piece l = 3 * length l.text.now + 3

abbrev pub invariant-branch-loop-left : goal.invariant-branch-loop-left
invariant-branch-loop-left l = Sofar pieces l.text l.n (memory l.initial.rows l.initial.more l.initial.tables) l.left (memory l.rows l.more l.tables) l.so_far × LettersStay l.initial.tables l.tables

abbrev pub decreases-branch-loop-left : goal.decreases-branch-loop-left
decreases-branch-loop-left l = length l.left

abbrev pub invariant-pattern-loop-next : goal.invariant-pattern-loop-next
invariant-pattern-loop-next l = Sofar branches l.text l.n (memory l.initial.all l.initial.more l.initial.tables) l.left (memory l.all l.more l.tables) l.so_far × LettersStay l.initial.tables l.tables

abbrev pub decreases-pattern-loop-next : goal.decreases-pattern-loop-next
decreases-pattern-loop-next l = length l.left
