-- The entry of 127 is stored, and any other code of a set is a letter. Assumes nothing.
use mathlib.Core.Path.{◌≡◌, sym, ap, ◌∙◌, subst}
use mathlib.Core.Bool.{Bool, ◌&&◌}
use Prim.Native.Nat.{ℕ, ◌+◌}
use native.Mathlib.Omega.{arith}
use lib.Dec.{ltb}
use lib.ListN.{get_or, set}
use lib.Seq.{get_or-set_same, get_or-set_other}
use Rattle.basics.proofs.Tests.{by_equal}
use Rattle.bits.specs.Bits.{has_bit}
use Rattle.letters.specs.LetterSet.{has_letter, set_at}
use Rattle.letters.proofs.Sets.{is_letter_but}
use Rattle.columns.proofs.holders_of.Goals as goal

pub returns : goal.returns
returns c x j =
    let sets = c.args.b.now.letters in
    let n = c.args.b.now.positions + 1 in
    let table = c.holders_of_letters-table.result in
    let word = c.holders_of_code.result in
    by_equal 127 x
    (λ e. subst (λ (y : ℕ). has_bit (get_or (set table 127 word) y 0) j ≡ (ltb j n && has_letter (set_at sets j) y)) e
    (ap (λ (m : ℕ). has_bit m j) (get_or-set_same table 127 word 0 (omega arith)) ∙ c.holders_of_code.ensures j))
    (λ d. ap (λ (m : ℕ). has_bit m j) (get_or-set_other table 127 x word 0 (λ e. d (sym e))) ∙ c.holders_of_letters-table.ensures x j
    ∙ ap (λ (t : Bool). ltb j n && t) (c.letters_of-cut.ensures j x ∙ is_letter_but (set_at sets j) x d))
