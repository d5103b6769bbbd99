-- The loop's invariant: what the rows have and the numbers of links are, with those left to come, is what was to come at the start;
-- and where none was linked before, no number has changed. Assumes nothing.
use mathlib.Core.Path.{◌≡◌}
use mathlib.Core.Bool.{true, false}
use Prim.Native.Nat.{ℕ, ◌<◌, ◌^◌}
use lib.ListN.{get_or}
use Rattle.links.specs.Rows.{kept, entry}
use Rattle.links.proofs.Linking.{to_come}
use Rattle.links.proofs.Counting.{to_count}
use Rattle.links.proofs.link_again.Given as goal

abbrev pub invariant-loop-a : goal.invariant-loop-a
invariant-loop-a l = (goal.iterator-loop-a).can_next l.a-iterator × (goal.iterator-loop-a).is_finite l.a-iterator × record {
  small : l.a-iterator.left < 2 ^ 61;
  to_come : (a b : ℕ) → to_come l.rows l.a-iterator.left l.firsts a b ≡ to_come l.initial.rows l.initial.a-iterator.left l.firsts a b;
  bytes : (a b : ℕ) → kept b ≡ true → get_or l.more (entry a b) 0 < 256;
  to_count : (a b : ℕ) → kept b ≡ true → to_count l.rows l.more l.a-iterator.left l.firsts a b ≡ to_count l.initial.rows l.initial.more l.initial.a-iterator.left l.firsts a b;
  none : l.again ≡ false → l.more ≡ l.initial.more;
}
