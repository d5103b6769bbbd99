-- The loop's invariant: what the entries are, with those left to come, is what they were to be at the start. Assumes nothing.
use mathlib.Core.Path.{◌≡◌}
use mathlib.Core.Bool.{true}
use Prim.Native.Nat.{ℕ, ◌<◌, ◌^◌}
use Rattle.links.specs.Rows.{kept}
use Rattle.links.proofs.Counting.{to_further}
use Rattle.links.proofs.add.Given as goal

abbrev pub invariant-loop-b : goal.invariant-loop-b
invariant-loop-b l = (goal.iterator-loop-b).can_next l.b-iterator × (goal.iterator-loop-b).is_finite l.b-iterator × record {
  small : l.b-iterator.left < 2 ^ 61;
  to_further : (x y : ℕ) → kept y ≡ true → to_further l.more l.a l.b-iterator.left x y ≡ to_further l.initial.more l.a l.set x y;
  none : l.set ≡ 0 → (l.b-iterator.left ≡ 0) × (l.more ≡ l.initial.more);
}
