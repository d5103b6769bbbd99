-- The slot says which word to ask. Assumes nothing.
use mathlib.Core.Path.{◌≡◌, sym, ap, ◌∙◌}
use Prim.Native.Nat.{◌+◌, ◌-◌}
use native.Mathlib.Omega.{arith}
use Rattle.letters.specs.LetterSet.{in_slot}
use Rattle.letters.proofs.Sets.{at_low, at_middle, at_high}
use Rattle.letters.proofs.LetterSet.has_at.Goals as goal

pub returns-in-0-to-63 : goal.returns-in-0-to-63
returns-in-0-to-63 c =
    let a = c.args in
    c.has.ensures ∙ sym (at_low a.self a.slot (omega arith))

pub returns-in-64-to-127 : goal.returns-in-64-to-127
returns-in-64-to-127 c =
    let a = c.args in
    let e : a.slot ≡ 64 + (a.slot - 64) = omega arith in
    c.has-in-64-to-127.ensures ∙ sym (ap (in_slot a.self) e ∙ at_middle a.self (a.slot - 64) (omega arith))

pub returns-in_default : goal.returns-in_default
returns-in_default c =
    let a = c.args in
    let e : a.slot ≡ 128 + (a.slot - 128) = omega arith in
    c.has-in_default.ensures ∙ sym (ap (in_slot a.self) e ∙ at_high a.self (a.slot - 128))
