-- A position that the loop has passed has no free partner. Assumes nothing.
use mathlib.Core.Path.{sym, ap, ◌∙◌}
use Rattle.bits.specs.Bits.{has_bit}
use Rattle.nodes.proofs.Nodes.{partner_free, free_pending}
use Rattle.nodes.proofs.Steps.new_pair.Goals as goal

pub returns-in-Some-next : goal.returns-in-Some-next
returns-in-Some-next c =
    let taken = c.in-Some.ensures.steps in
    let passed = c.loop-a.invariant.2 in
    let b = c.in-Some-next.b in
    record {
      left = c.in-Some.a;
      right = b;
      free = partner_free c.partners-new.ensures (passed.within c.in-Some.a taken.least.here) (ap (λ m. has_bit m b) (sym c.members.ensures) ∙ c.in-Some-next.ensures.steps.least.here);
      is = c.parted-node.ensures.1;
      fits = c.parted-node.ensures.0;
      pending = free_pending c.below.result c.difference-pending.result passed taken.least c.below.ensures c.difference-pending.ensures;
    }
