-- The three searches each find their goal: by the pivot's two loops, and since every position lies on a way from the first letter
-- to an end. Assumes nothing.
use native.Mathlib.Omega.{arith}
use Rattle.vetting.proofs.Answering.{showable, showable_alone, text_of, first_low, way_in_some, way_in_short, way_out_some, loops_some, runaway_answer}
use Rattle.vetting.proofs.runaway.Goals as goal

pub only-here-requires : goal.only-here-requires
only-here-requires c = omega (arith, first_low c.requires.0 c.requires.2)

pub spell-requires : goal.spell-requires
spell-requires c =
    let fit = c.requires.0 in
    (omega arith, omega (arith, c.requires.3), fit.bounded.letters, showable_alone fit c.requires.1)

pub unwrap-x-requires : goal.unwrap-x-requires
unwrap-x-requires c = way_in_some c.requires.0 c.requires.2 c.requires.1 _ c.only-here.ensures _ _ c.spell.result c.spell.ensures.says

pub spell-requires-2 : goal.spell-requires-2
spell-requires-2 c =
    let fit = c.requires.0 in
    let x = text_of _ _ _ _ _ _ _ c.unwrap-x.ensures c.spell.ensures.says in
    (first_low fit c.requires.2, omega (arith, c.requires.3, c.spell.auto.evidence, x.few), fit.bounded.letters, showable fit c.requires.1)

pub unwrap-y-requires : goal.unwrap-y-requires
unwrap-y-requires c = loops_some c.requires.0 c.requires.2 c.requires.1 _ c.only-here.ensures _ _ _ c.spell-2.result c.spell-2.ensures.says

pub spell-requires-3 : goal.spell-requires-3
spell-requires-3 c =
    let fit = c.requires.0 in
    let x = way_in_short fit c.requires.2 c.requires.1 _ c.only-here.ensures (text_of _ _ _ _ _ _ _ c.unwrap-x.ensures c.spell.ensures.says) in
    let y = text_of _ _ _ _ _ _ _ c.unwrap-y.ensures c.spell-2.ensures.says in
    (first_low fit c.requires.2, omega (arith, c.requires.3, c.spell.auto.evidence, c.spell-2.auto.evidence, x, y.few), fit.bounded.letters, showable_alone fit c.requires.1)

pub unwrap-z-requires : goal.unwrap-z-requires
unwrap-z-requires c = way_out_some c.requires.0 c.requires.2 c.requires.1 _ c.only-here.ensures _ _ _ c.spell-3.result c.spell-3.ensures.says

pub returns : goal.returns
returns c =
    runaway_answer c.requires.0 c.requires.2 c.requires.1 _ c.only-here.ensures (text_of _ _ _ _ _ _ _ c.unwrap-x.ensures c.spell.ensures.says) (text_of _ _ _ _ _ _ _ c.unwrap-y.ensures c.spell-2.ensures.says)
    (text_of _ _ _ _ _ _ _ c.unwrap-z.ensures c.spell-3.ensures.says)
