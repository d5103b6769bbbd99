-- Each turn reads one item. Assumes nothing.
use Rattle.std.proofs.Common.{rules}
use native.Mathlib.Omega.{arith}
use lib.ListN.{length}
use borrow.Author.Tests.{ltb-true}
use Rattle.places.proofs.Places.{text_after, none_first}
use Rattle.classes.proofs.Members.{sofar_none, sofar_bad, sofar_next, sofar_end}
use Rattle.classes.proofs.items.Goals as goal

pub loop-item-init : goal.loop-item-init
loop-item-init c = λ f l. sofar_none f c.args.text.now c.empty-set.result l c.empty-set.ensures

pub returns-in_err-item : goal.returns-in_err-item
returns-in_err-item c = λ f l. rw c.from_residual.ensures (sofar_bad _ _ _ _ _ (c.loop-item.invariant f l) c.in_err-item.ensures)

pub returns-in-93 : goal.returns-in-93
returns-in-93 c = λ f l. sofar_end _ _ _ c.in_ok-item.rest.now _ _ _ _ _ (c.loop-item.invariant f l) c.in_ok-item.ensures c.range.ensures c.union-set.ensures _ (search rules) (text_after 1 _)

pub loop-item-smaller : goal.loop-item-smaller
loop-item-smaller c = let o = c.in_ok-item.ensures.shorter in omega arith

pub loop-item-preserved : goal.loop-item-preserved
loop-item-preserved c = λ f l. sofar_next _ _ _ c.in_ok-item.rest.now _ _ _ _ _ (c.loop-item.invariant f l) c.in_ok-item.ensures c.range.ensures c.union-set.ensures (search rules)

pub loop-item-preserved-then-rest-lt1 : goal.loop-item-preserved-then-rest-lt1
loop-item-preserved-then-rest-lt1 c = λ f l. sofar_next _ _ _ c.in_ok-item.rest.now _ _ _ _ _ (c.loop-item.invariant f l) c.in_ok-item.ensures c.range.ensures c.union-set.ensures (none_first c.in_ok-item.rest.now _ (ltb-true (length c.in_ok-item.rest.now) 1 (search rules)))

pub loop-item-smaller-then-rest-lt1 : goal.loop-item-smaller-then-rest-lt1
loop-item-smaller-then-rest-lt1 c = let o = c.in_ok-item.ensures.shorter in omega arith
