-- The first i rows are entered, those of wide sets by what they lack, and in the end these are flipped. Assumes nothing.
use Rattle.std.proofs.lemmas.Grind.{common_steps}
use Rattle.std.proofs.Common.{◌≡◌, ℕ, ◌+◌, refl, subst, arith}
use Rattle.std.proofs.lemmas.List.{length-take-le}
use Rattle.bits.proofs.Laws.{has_none}
use Rattle.letters.specs.LetterSet.{has_letter, set_at}
use Rattle.letters.proofs.Sets.{code_below}
use Rattle.columns.specs.Tables.{Columns}
use Rattle.columns.proofs.Columns.{columns_start}
use Rattle.columns.proofs.Wide.{is_entered, all_flipped, none_flipped}
use Rattle.columns.proofs.holders_of_letters.Goals as goal

pub loop-i-init : goal.loop-i-init
loop-i-init c = (refl, λ j h. has_none j, columns_start (is_entered c.args.b.now.letters 0) 256)

pub enter-requires : goal.enter-requires
enter-requires c =
    let at = c.loop-i in (
      λ x h. omega (arith, at.invariant.0, code_below c.if-is_wide.entered x h),
      omega (arith, at.auto, length-take-le (c.args.b.now.positions + 1) c.args.b.now.letters),
    )

pub loop-i-preserved : goal.loop-i-preserved
loop-i-preserved c = grind (arith, common_steps)

pub returns-then-wide-ne0 : goal.returns-then-wide-ne0
returns-then-wide-ne0 c =
    let sets = c.args.b.now.letters in
    let at = c.loop-i in
    let flip = c.flip_letters in
    let z : at.i ≡ c.args.b.now.positions + 1 = omega (arith, length-take-le (c.args.b.now.positions + 1) sets) in
    subst (λ (n : ℕ). Columns (λ j b. has_letter (set_at sets j) b) n flip.new.table) z
    (all_flipped sets at.i at.wide at.table at.invariant.2 c.requires at.invariant.1 flip.new.table flip.ensures)

pub returns-else-wide-ne0 : goal.returns-else-wide-ne0
returns-else-wide-ne0 c =
    let sets = c.args.b.now.letters in
    let at = c.loop-i in
    let z : at.i ≡ c.args.b.now.positions + 1 = omega (arith, length-take-le (c.args.b.now.positions + 1) sets) in
    subst (λ (n : ℕ). Columns (λ j b. has_letter (set_at sets j) b) n at.table) z
    (none_flipped sets at.i at.wide at.table at.invariant.2 c.if-wide-ne0.false)
