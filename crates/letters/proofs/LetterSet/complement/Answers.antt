-- Complemented bit by bit, the words have the letters that are not in the set. Assumes nothing.
use mathlib.Core.Path.{◌≡◌, sym, ap, ◌∙◌}
use mathlib.Core.Bool.{not, ◌&&◌}
use Prim.Native.Nat.{ℕ, ◌-◌, ◌^◌, ◌<◌}
use native.Mathlib.Omega.{arith}
use borrow.Author.Tests.{lt-ltb}
use Rattle.bits.specs.Bits.{has_bit}
use Rattle.bits.proofs.Laws.{has_not}
use Rattle.letters.specs.LetterSet.{has_letter}
use Rattle.letters.proofs.Sets.{in_low, in_middle, in_high, by_letters, cut_lacks, cut_has}
use Rattle.letters.proofs.LetterSet.complement.Goals as goal

-- a word complemented
complemented : (w i : ℕ) → w < 2 ^ 64 → i < 64 → has_bit (2 ^ 64 - 1 - w) i ≡ not (has_bit w i)
complemented w i f h = has_not 64 w i f ∙ ap (λ t. t && not (has_bit w i)) (lt-ltb i 64 h)

pub returns : goal.returns
returns c =
    let s = c.args.self in
    by_letters _ (cut_lacks (2 ^ 64 - 1 - s.middle)) (λ k. not (has_letter s k)) (λ i h. complemented s.low i (omega arith) h ∙ ap not (sym (in_low s i h)))
    (λ i h e. cut_has _ i h e ∙ complemented s.middle i (omega arith) h ∙ ap not (sym (in_middle s i h)))
    (λ i h. complemented s.high i (omega arith) h ∙ ap not (sym (in_high s i h)))
