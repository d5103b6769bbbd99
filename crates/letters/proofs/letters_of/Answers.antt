-- Past the arrays both sides are the empty set. Assumes nothing.
use mathlib.Core.Path.{◌≡◌, refl, sym, ap, ◌∙◌}
use mathlib.Core.Bool.{false, ◌&&◌, and-false}
use mathlib.Core.Logic.{⊎_elim}
use mathlib.Core.List.{List}
use Prim.Native.Nat.{ℕ, ◌≤◌}
use native.Mathlib.Omega.{arith}
use lib.ListN.{length}
use Rattle.std.proofs.lemmas.List.{get_or_past}
use Rattle.basics.proofs.Tests.{le_or_lt}
use Rattle.alphabet.specs.Alphabet.{is_letter}
use Rattle.letters.specs.LetterSet.{has_letter, set_at}
use Rattle.letters.specs.declared.LetterSet.{LetterSet}
use Rattle.letters.proofs.Sets.{zero_none}
use Rattle.letters.proofs.letters_of.Goals as goal

none_past : (sets : List LetterSet) (i c : ℕ) → length sets ≤ i → has_letter (set_at sets i) c ≡ false
none_past sets i c past =
    let none : LetterSet = record { low = 0; middle = 0; high = 0 } in
    ap (λ (s : LetterSet). has_letter s c) (get_or_past sets i none past) ∙ zero_none none refl refl refl c

pub returns : goal.returns
returns c i k =
    let at = c.loop-i in
    ⊎_elim
    (λ l. none_past at.letters i k (omega (arith, at.invariant.0)) ∙ sym (ap (λ t. is_letter k && t) (none_past c.args.sets.now i k (omega (arith, c.told-sets))) ∙ and-false (is_letter k)))
    (λ l. at.invariant.1 i k (omega arith)) (le_or_lt 61 i)
