-- The first u rows are entered. Assumes nothing.
use Rattle.std.proofs.Common.{◌+◌, ◌<◌, get_or, take, refl, arith}
use Rattle.std.proofs.lemmas.List.{get_or-take, length-take-le}
use Rattle.bits.specs.Bits.{has_bit}
use Rattle.bits.proofs.Laws.{member_below}
use Rattle.columns.proofs.Columns.{columns_start}
use Rattle.columns.proofs.states_before.Goals as goal

pub loop-u-init : goal.loop-u-init
loop-u-init c = (refl, columns_start (λ v i. has_bit (get_or c.args.b.now.follow v 0) i) 61)

pub enter-requires : goal.enter-requires
enter-requires c =
    let at = c.loop-u in
    let n = c.args.b.now.positions + 1 in
    let l : at.u < n = omega (arith, length-take-le n c.args.b.now.follow) in
    let row = get_or-take n c.args.b.now.follow at.u 0 l in
    (λ x here. omega (arith, at.invariant.0, member_below 61 (get_or (take n c.args.b.now.follow) at.u 0) x (omega (arith, row, c.requires at.u)) here), omega arith)
