-- The loop only passes heads that have no new node one step on. What is said of a sound search stands behind an implication. Assumes
-- nothing.
use Rattle.std.proofs.Common.{◌-◌, ◌≡◌}
use Rattle.search.specs.Search.{SoundSearch}
use Rattle.search.proofs.Search.visit.Given as goal

abbrev pub invariant-loop-self : goal.invariant-loop-self
invariant-loop-self l =
    (l.scratch.numbers.now ≡ l.initial.scratch.numbers.now) × (l.self.tail ≡ l.initial.self.tail) × (SoundSearch l.steps l.initial.scratch.numbers.now l.initial.self → SoundSearch l.steps l.scratch.numbers.now l.self)

abbrev pub decreases-loop-self : goal.decreases-loop-self
decreases-loop-self l = l.self.tail - l.self.head
