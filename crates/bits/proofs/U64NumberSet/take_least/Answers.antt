-- Nothing is in 0.
use Rattle.std.proofs.Common.{ap, ◌∙◌}
use Rattle.bits.specs.Bits.{has_bit}
use Rattle.bits.proofs.Laws.{has_none}
use Rattle.bits.proofs.U64NumberSet.take_least.Goals as goal

pub returns-then-self-eq0 : goal.returns-then-self-eq0
returns-then-self-eq0 c = λ i. ap (λ m. has_bit m i) c.if-self-eq0.true ∙ has_none i
