-- The loop's invariant: what the rows have, with those left to come, is what was to come at the start. Assumes nothing.
use mathlib.Core.Path.{◌≡◌}
use Prim.Native.Nat.{ℕ, ◌<◌, ◌^◌}
use Rattle.links.proofs.Linking.{to_come}
use Rattle.links.proofs.link.Given as goal

abbrev pub invariant-loop-a : goal.invariant-loop-a
invariant-loop-a l = (goal.iterator-loop-a).can_next l.a-iterator × (goal.iterator-loop-a).is_finite l.a-iterator × record {
  small : l.a-iterator.left < 2 ^ 61;
  to_come : (a b : ℕ) → to_come l.rows l.a-iterator.left l.firsts a b ≡ to_come l.initial.rows l.initial.a-iterator.left l.firsts a b;
}
