-- All copies are made, and each turn joins one more to the chain. Assumes nothing.
use Rattle.std.proofs.Common.{rules}
use mathlib.Core.Path.{refl}
use Rattle.bounds.specs.Bounds.{bounds_of}
use Rattle.chains.proofs.Growing.{begins, has_room, goes_on, stops}
use Rattle.chains.proofs.chain.Goals as goal

pub loop-i-init : goal.loop-i-init
loop-i-init c = begins _ _ _ _ _ _ c.requires.2 c.requires.3

pub next-one-requires : goal.next-one-requires
next-one-requires c = has_room _ _ _ _ _ _ c.requires.2 c.requires.3 _ _ _ _ _ c.loop-i.invariant c.loop-i-test.true

pub loop-i-preserved : goal.loop-i-preserved
loop-i-preserved c = goes_on _ _ _ _ _ _ c.requires.2 c.requires.3 _ _ _ _ _ c.loop-i.invariant _ _ _ _ c.loop-i-test.true c.next-one.ensures c.join-all.ensures c.union_if-ends.ensures

pub returns : goal.returns
returns c = stops _ _ _ _ _ _ c.requires.2 c.requires.3 _ _ _ _ _ c.loop-i.invariant _ _ (bounds_of c.args.interval) refl _ (search rules) _ _ _ _ c.copy.ensures c.loop-i-test.false c.union_if-back.ensures c.link_again-second.ensures
