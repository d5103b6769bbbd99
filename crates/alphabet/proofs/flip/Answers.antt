-- What the loop leaves stands between the entries before `first` and those after `last`. Assumes nothing.
use mathlib.Core.Path.{◌≡◌, ap, subst}
use mathlib.Core.Bool.{Bool, ◌&&◌}
use Prim.Native.Nat.{ℕ, ◌+◌, ◌-◌}
use native.Mathlib.Omega.{arith}
use lib.Dec.{leb, ltb}
use lib.ListN.{get_or, take, drop, length-drop}
use lib.Bits.{bit_xor}
use borrow.Rule.Slice.PartMut.{put_mid}
use Rattle.std.proofs.lemmas.List.{length-take-le}
use Rattle.basics.proofs.Tests.{below_next}
use Rattle.bits.proofs.Laws.{has_xor}
use Rattle.alphabet.specs.Flipped.{Flipped}
use Rattle.alphabet.proofs.Flipping.{flip_one, flip_part, flip_same}
use Rattle.alphabet.proofs.flip.Goals as goal

pub loop-entry-preserved : goal.loop-entry-preserved
loop-entry-preserved c =
    let at = c.loop-entry in
    let mask = c.args.mask in
    flip_one at.entry-index mask (bit_xor (get_or at.entry-items at.entry-index 0) mask) _ at.entry-items (omega arith) at.invariant (has_xor (get_or at.entry-items at.entry-index 0) mask)

pub returns : goal.returns
returns c =
    let a = c.args in
    let at = c.loop-entry in
    let n = a.last + 1 - a.first in
    let size = length-take-le n (drop a.first a.table.now) (omega (arith, length-drop a.first a.table.now, c.requires)) in
    let all : at.entry-index ≡ n = omega (arith, at.auto, size) in
    flip_same (λ x. leb a.first x && ltb x (a.first + n)) (λ x. leb a.first x && leb x a.last) a.mask a.table.now (put_mid a.first n a.table.now at.entry-items)
    (λ x. ap (λ (t : Bool). leb a.first x && t) (below_next x (a.first + n) a.last (omega (arith, c.requires))))
    (flip_part a.first n a.mask a.table.now at.entry-items (omega (arith, c.requires))
    (subst (λ (k : ℕ). Flipped (λ x. ltb x k) a.mask (take n (drop a.first a.table.now)) at.entry-items) all at.invariant))
