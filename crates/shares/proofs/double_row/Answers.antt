-- Of the members that are passed, those with a number above 0 are kept. Assumes nothing.
use mathlib.Core.Path.{ap, ◌∙◌}
use mathlib.Core.Bool.{Bool, ◌&&◌, ◌||◌}
use Prim.Native.Nat.{◌+◌, ◌*◌}
use lib.Dec.{ltb}
use lib.ListN.{get_or}
use Rattle.bits.specs.Bits.{has_bit}
use Rattle.shares.proofs.Doubling.{keep_start, keep_turn, keep_end}
use Rattle.shares.proofs.double_row.Goals as goal

pub loop-i-init : goal.loop-i-init
loop-i-init c =
    (tt, tt, keep_start _ (ap (λ w. w.left) c.into_iter-i-iterator.ensures.into_iter_gives ∙ c.members-i-items.ensures) c.ranges.set.fits)

pub loop-i-preserved : goal.loop-i-preserved
loop-i-preserved c = (tt, tt, keep_turn c.loop-i.invariant.2 c.in-Some.ensures.steps (λ j. c.union_if-doubled.ensures j ∙ ap (λ (x : Bool). has_bit c.loop-i.doubled j || (ltb 0 (get_or c.args.more.now (61 * c.args.u + c.in-Some.i) 0) && x)) (c.only.ensures j)))

pub returns : goal.returns
returns c = keep_end c.loop-i.invariant.2 c.in-None.ensures.steps
