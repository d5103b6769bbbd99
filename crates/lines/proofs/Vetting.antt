-- The line of a pattern by what vetting it gave. Assumes nothing.
use mathlib.Core.Path.{◌≡◌, ap, ap₂, ◌∙◌}
use mathlib.Core.List.{List}
use Prim.Native.Nat.{ℕ, ◌≤◌}
use native.Mathlib.Omega.{arith}
use lib.ListN.{length}
use Rattle.std.specs.Prelude.{Result, Ok, Err}
use Rattle.pattern.specs.Grammar.{pattern_part}
use Rattle.pattern.specs.Positions.{positions, pattern_graph}
use Rattle.pattern.specs.Refusals as Refusals
use Rattle.pattern.specs.declared.Refusal.{Refusal}
use Rattle.pattern.proofs.Numbers.{number_low}
use Rattle.verdict.specs.Verdict.{verdict}
use Rattle.vetting.specs.declared.Vetted.{Vetted}
use Rattle.calls.specs.Vetting.{VetSays}
use Rattle.calls.proofs.Vetting.{by_pattern}
use Rattle.fields.specs.Fields.{result_line, outcome_line}
use Rattle.fields.proofs.Fields.{line_refused}
use Rattle.lines.specs.Lines.{line_of}

-- `vet_pattern` gave r of the pattern s, with evidence and scratch that are large enough; the line has the number n
module _ (s e e' w w' : List ℕ) (long : 4096 ≤ length e) (wide : 4096 ≤ length w) (n : ℕ) where
  pub line_is : (r : Result Vetted Refusal) → VetSays s e e' w w' r → outcome_line n r ≡ line_of n s
  unfolding line_of
  line_is (Ok v) says =
      let none = says.refusal ∙ by_pattern s (length e) (length w) long wide in
      let j = says.outcome.judged in
      ap₂ (result_line n 0) j.reports.verdict_is j.positions ∙ ap (λ (f : ℕ). result_line n f (verdict (pattern_graph s)) (positions (pattern_part s))) none
  line_is (Err x) says =
      let is = says.refusal ∙ by_pattern s (length e) (length w) long wide in
      line_refused n (Refusals.number_of x) (verdict (pattern_graph s)) (positions (pattern_part s)) (λ z. let k = number_low x in omega arith)
      ∙ ap (λ (f : ℕ). result_line n f (verdict (pattern_graph s)) (positions (pattern_part s))) is
