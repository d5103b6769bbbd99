-- The number that C is lent: the count where there is no refusal, and kept at one. Assumes nothing.
use mathlib.Core.Path.{◌≡◌, sym, ◌∙◌}
use mathlib.Core.List.{List}
use Prim.Native.Nat.{ℕ}
use native.Mathlib.Omega.{arith}
use lib.Dec.{eqb}
use borrow.Author.Tests.{eq-eqb, ne_eqb}
use Rattle.std.specs.Prelude.{Result, Ok, Err, MatchResult}
use Rattle.basics.proofs.Tests.{if_yes, if_no}
use Rattle.pattern.specs.Refusals.{number_of}
use Rattle.pattern.specs.declared.Refusal.{Refusal}
use Rattle.pattern.proofs.Numbers.{number_low}
use Rattle.marks.specs.declared.Marked.{Marked}
use Rattle.calls.specs.Marking.{mark_refusal, count_shown, MarkSays}
use Rattle.marking.specs.ForC.{count_after}

module _ (s a : List ℕ) where
  pub count_kept : (old : ℕ) → (mark_refusal s a ≡ 0 → ⊥) → count_after s a old ≡ old
  count_kept old d = if_no (count_shown s a) old (eqb (mark_refusal s a) 0) (ne_eqb (mark_refusal s a) 0 d)

  pub count_after_is : (r : Result Marked Refusal) (old new : ℕ) → MarkSays s a r → MatchResult r (λ m. new ≡ m.count) (λ _. new ≡ old) → new ≡ count_after s a old
  count_after_is (Ok m) old new h w =
      w ∙ h.marked.count ∙ sym (if_yes (count_shown s a) old (eqb (mark_refusal s a) 0) (eq-eqb (mark_refusal s a) 0 (sym h.refusal)))
  count_after_is (Err e) old new h w = w ∙ sym (count_kept old (λ z. let is : number_of e ≡ 0 = h.refusal ∙ z in omega (arith, (number_low e).0, is)))
