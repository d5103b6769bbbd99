-- The code has a slot in the one half or in the other, or none. Assumes nothing.
use mathlib.Core.Path.{sym, ap, ◌∙◌}
use native.Mathlib.Omega.{arith}
use Rattle.letters.specs.LetterSet.{in_slot}
use Rattle.letters.proofs.Slots.{has_low, has_high, no_slot, slot_low, slot_high}
use Rattle.letters.proofs.Sets.{not_in, is_in_its_slot}
use Rattle.letters.proofs.LetterSet.has.Goals as goal

pub returns-then-code-lt-FIRST : goal.returns-then-code-lt-FIRST
returns-then-code-lt-FIRST c = let a = c.args in sym (not_in a.self a.code (no_slot a.code (λ l h. omega arith) (λ l h. omega arith)))

pub returns-then-code-lt128 : goal.returns-then-code-lt128
returns-then-code-lt128 c =
    let a = c.args in
    c.has_at.ensures ∙ sym (is_in_its_slot a.self a.code (has_low a.code (omega arith) (omega arith)) ∙ ap (in_slot a.self) (slot_low a.code (omega arith)))

pub returns-then-code-lt-FIRST_HIGH : goal.returns-then-code-lt-FIRST_HIGH
returns-then-code-lt-FIRST_HIGH c = let a = c.args in sym (not_in a.self a.code (no_slot a.code (λ l h. omega arith) (λ l h. omega arith)))

pub returns-else-code-lt-FIRST_HIGH : goal.returns-else-code-lt-FIRST_HIGH
returns-else-code-lt-FIRST_HIGH c =
    let a = c.args in
    c.has_at-else-code-lt-FIRST_HIGH.ensures ∙ sym (is_in_its_slot a.self a.code (has_high a.code (omega arith) (omega arith)) ∙ ap (in_slot a.self) (slot_high a.code (omega arith)))
