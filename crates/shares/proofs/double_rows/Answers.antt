-- Where nothing is doubled, each row is empty. Assumes nothing.
use mathlib.Core.Path.{sym, ap, ◌∙◌}
use Prim.Native.Nat.{ℕ}
use Rattle.basics.proofs.Lists.{zeros}
use Rattle.bits.specs.Bits.{has_bit}
use Rattle.bits.proofs.Laws.{has_none}
use Rattle.shares.proofs.double_rows.Goals as goal

pub returns-then-not-b : goal.returns-then-not-b
returns-then-not-b c u i k =
    ap (λ (x : ℕ). has_bit x i) (zeros 61 u) ∙ has_none i ∙ sym (c.requires.1 c.if-not-b.true u i)
