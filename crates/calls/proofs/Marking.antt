-- Marking an answer, refusal by refusal: which of the tests decides, and what is promised then. Assumes nothing.
use mathlib.Core.Path.{◌≡◌, sym, ap, ◌∙◌, subst}
use mathlib.Core.Bool.{true, not}
use mathlib.Core.List.{List}
use Prim.Native.Nat.{ℕ, ◌^◌, ◌≤◌, ◌<◌, min}
use native.Mathlib.Omega.{arith}
use lib.Dec.{eqb, ltb}
use lib.IntN.{pos}
use lib.ListN.{length}
use borrow.Author.Tests.{eqb-true, eq-eqb, ne_eqb, lt-ltb, le-ltb}
use Rattle.std.specs.Prelude.{if◌then◌else◌, Ok, Err}
use Rattle.basics.proofs.Tests.{by_test, if_yes, if_no}
use Rattle.alphabet.specs.Alphabet.{all_letters}
use Rattle.graph.specs.Graph.{Graph}
use Rattle.graph.specs.Readings.{readings, mark}
use Rattle.graph.specs.Taken.{letters_taken}
use Rattle.graph.proofs.Taken.{taken_first}
use Rattle.pattern.specs.Refusals.{pattern_refusal, number_of}
use Rattle.pattern.specs.declared.Refusal.{Refusal}
use Rattle.pattern.specs.Positions.{pattern_graph}
use Rattle.marks.specs.Answers.{Answered}
use Rattle.marks.specs.declared.Marked.{Marked}
use Rattle.calls.specs.Marking.{mark_refusal, MarkSays}

module _ (s a : List ℕ) where
  -- ---- which refusal

  abbrev of_answer : ℕ
  of_answer = if ltb 4096 (length a) then 9 else if not (all_letters a) then 10 else 0

  pub by_pattern : (pattern_refusal s ≡ 0 → ⊥) → mark_refusal s a ≡ pattern_refusal s
  by_pattern d = if_yes (pattern_refusal s) of_answer (not (eqb (pattern_refusal s) 0)) (ap not (ne_eqb (pattern_refusal s) 0 d))

  by_answer : pattern_refusal s ≡ 0 → mark_refusal s a ≡ of_answer
  by_answer e = if_no (pattern_refusal s) of_answer (not (eqb (pattern_refusal s) 0)) (ap not (eq-eqb (pattern_refusal s) 0 e))

  pub too_long : pattern_refusal s ≡ 0 → 4096 < length a → mark_refusal s a ≡ 9
  too_long e l = by_answer e ∙ if_yes 9 (if not (all_letters a) then 10 else 0) (ltb 4096 (length a)) (lt-ltb 4096 (length a) l)

  by_letters : pattern_refusal s ≡ 0 → length a ≤ 4096 → mark_refusal s a ≡ (if not (all_letters a) then 10 else 0)
  by_letters e l = by_answer e ∙ if_no 9 (if not (all_letters a) then 10 else 0) (ltb 4096 (length a)) (le-ltb 4096 (length a) l)

  pub accepted : pattern_refusal s ≡ 0 → length a ≤ 4096 → all_letters a ≡ true → mark_refusal s a ≡ 0
  accepted e l y = by_letters e l ∙ if_no {A = ℕ} 10 0 (not (all_letters a)) (ap not y)

  -- where no refusal applies, none of the pattern's does
  pub pattern_accepted : mark_refusal s a ≡ 0 → pattern_refusal s ≡ 0
  pattern_accepted f = by_test (eqb (pattern_refusal s) 0) (eqb-true (pattern_refusal s) 0) (λ n. sym (if_yes (pattern_refusal s) of_answer (not (eqb (pattern_refusal s) 0)) (ap not n)) ∙ f)

  -- ---- what is promised

  pub says_refusal : (e : Refusal) → mark_refusal s a ≡ number_of e → MarkSays s a (Err e)
  says_refusal e f = record { refusal = sym f; marked = tt }

  pub says_mark : (g : Graph) (m : Marked) → g ≡ pattern_graph s → mark_refusal s a ≡ 0 → length a ≤ 4096 → Answered g a m.count m.mark × (m.taken ≡ letters_taken g a) → MarkSays s a (Ok m)
  says_mark g m e f short given =
      let h = subst (λ (x : Graph). Answered x a m.count m.mark × (m.taken ≡ letters_taken x a)) e given in
      let w = h.0 in
      let t = h.1 in
      let y : eqb (mark_refusal s a) 0 ≡ true = eq-eqb (mark_refusal s a) 0 f in
      record {
        refusal = sym f;
        marked = record {
          count = w.counts ∙ sym (if_yes (min (readings (pattern_graph s) a) (2 ^ 63)) 0 (eqb (mark_refusal s a) 0) y);
          mark = w.marks ∙ sym (if_yes (mark (pattern_graph s) a) (pos 0) (eqb (mark_refusal s a) 0) y);
          small = let l = w.small in omega arith;
          taken = t ∙ sym (if_yes (letters_taken (pattern_graph s) a) 0 (eqb (mark_refusal s a) 0) y);
          few = let l = (taken_first (pattern_graph s) a).within in omega arith;
        };
      }
