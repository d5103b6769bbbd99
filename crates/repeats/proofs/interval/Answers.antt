-- Each way out: an interval that refusal 11 names, one without room for its copies, and the copies. Assumes nothing.
use mathlib.Core.Path.{sym, ◌∙◌}
use Prim.Native.Nat.{◌-◌, ◌*◌, ◌≤◌}
use native.Mathlib.Nat.{mul-le-mul}
use native.Mathlib.Omega.{arith}
use Rattle.bounds.specs.Bounds.{bounds_of}
use Rattle.set_table.proofs.Letters.{repeat_lettered}
use Rattle.repeats.proofs.Intervals.{many, room, no_room, has_misbounded, has_many, has_few}
use Rattle.repeats.proofs.interval.Goals as goal

pub returns-then-out_of_bounds-clause-says : goal.returns-then-out_of_bounds-clause-says
returns-then-out_of_bounds-clause-says c m q h = has_misbounded _ m _ _ q h (bounds_of c.args.i) (sym c.out_of_bounds.ensures ∙ c.if-out_of_bounds.true)

pub overflow_mul-copies : goal.overflow_mul-copies
overflow_mul-copies c =
    let copies = c.how_many-copies in
    let number = many (bounds_of c.args.i) copies.result _ copies.ensures c.out_of_bounds.ensures c.if-out_of_bounds.false in
    let few : copies.result * (c.args.p.n - c.args.n) ≤ 255 * 61 = mul-le-mul {m₁ = c.args.p.n - c.args.n} {n₂ = 255} {m₂ = 61} number.1 (omega (arith, c.requires.cut)) in
    omega (arith, few)

pub returns-then-p-n-clause-says : goal.returns-then-p-n-clause-says
returns-then-p-n-clause-says c m q h =
    let i = c.args.i in
    let copies = c.how_many-copies in
    let some = (many (bounds_of i) copies.result _ copies.ensures c.out_of_bounds.ensures c.if-out_of_bounds.false).0 in
    has_many _ m _ _ q h (bounds_of i) copies.result (sym c.out_of_bounds.ensures ∙ c.if-out_of_bounds.false) copies.ensures some (no_room _ _ copies.result c.requires some m _ q h c.if-p-n.true)

pub returns-clause-says : goal.returns-clause-says
returns-clause-says c m q h =
    let i = c.args.i in
    let copies = c.how_many-copies in
    let some = (many (bounds_of i) copies.result _ copies.ensures c.out_of_bounds.ensures c.if-out_of_bounds.false).0 in
    let enough = room _ _ copies.result c.requires some c.if-p-n.false in
    has_few _ m _ _ q h (bounds_of i) copies.result (sym c.out_of_bounds.ensures ∙ c.if-out_of_bounds.false) copies.ensures some (c.args.p.n - c.args.n) _ _ _ _ enough.2 (omega (arith, c.requires.on)) c.repeat.ensures c.chain.ensures

pub returns-clause-letters : goal.returns-clause-letters
returns-clause-letters c = repeat_lettered _ _ _ _ _ (omega arith) c.repeat.ensures
