-- The loop's invariant: what the entries are, with those left to come, is what they were to be at the start. Assumes nothing.
use mathlib.Core.Path.{◌≡◌, refl, ap, ◌∙◌}
use Prim.Native.Nat.{ℕ}
use native.Mathlib.Omega.{arith}
use lib.ListN.{length}
use borrow.Author.Rules.{rules}
use Rattle.links.proofs.Linking.{row_of}
use Rattle.links.proofs.Counting.{to_further, further_turn, further_end}
use Rattle.links.proofs.add.Goals as goal

pub loop-b-init : goal.loop-b-init
loop-b-init c =
    let first : c.into_iter-b-iterator.result.left ≡ c.args.set = cc in
    (tt, tt, record { small = omega arith; to_further = λ x y k. ap (λ (m : ℕ). to_further c.args.more.now c.args.a m x y) first; none = λ z. (cc, refl) })

pub overflow_add-k : goal.overflow_add-k
overflow_add-k c = let low = row_of c.loop-b.invariant.2.small c.in-Some.ensures.steps in omega arith

pub bounds-more-k : goal.bounds-more-k
bounds-more-k c = let low = row_of c.loop-b.invariant.2.small c.in-Some.ensures.steps in omega arith

pub bounds-more-k-in-loop-b : goal.bounds-more-k-in-loop-b
bounds-more-k-in-loop-b c = let low = row_of c.loop-b.invariant.2.small c.in-Some.ensures.steps in omega arith

pub loop-b-preserved : goal.loop-b-preserved
loop-b-preserved c =
    let at = c.loop-b.invariant.2 in
    let s = c.in-Some.ensures.steps in
    let long : length c.loop-b.more ≡ 3721 = search rules in (
      tt,
      tt,
      record {
        small = omega (arith, at.small, s.fewer);
        to_further = λ x y k. further_turn _ _ _ _ _ _ long c.requires.0 (row_of at.small s) s c.saturating_add.ensures x y k ∙ at.to_further x y k;
        none = λ z. absurd (let e = (at.none z).0 in omega (arith, s.fewer));
      },
    )

pub returns : goal.returns
returns c =
    let at = c.loop-b.invariant.2 in
    record {
      counts = λ x y k. further_end _ _ _ c.in-None.ensures.steps x y ∙ at.to_further x y k;
      none = λ z. (at.none z).1;
    }
