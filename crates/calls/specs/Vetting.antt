-- What vetting a pattern promises, for all input. Which texts are shown is free beyond what their records say, and so is what the
-- first 4,096 numbers of scratch hold after a verdict.
use Rattle.std.specs.Prelude.{◌≡◌, List, ℕ, ◌≤◌, ltb, length, get_or, if◌then◌else◌, Result, MatchResult}
use Rattle.pattern.specs.Refusals.{pattern_refusal, refusal_of}
use Rattle.pattern.specs.declared.Refusal.{Refusal}
use Rattle.pattern.specs.Positions.{pattern_graph}
use Rattle.vetting.specs.Answers.{Judged}
use Rattle.vetting.specs.declared.Vetted.{Vetted}

-- [Refusals] 1, fewer than 4,096 bytes of evidence, then 2, fewer than 4,096 numbers of scratch, then those of the pattern
abbrev pub vet_refusal : List ℕ → ℕ → ℕ → ℕ
vet_refusal s evidence scratch =
    if ltb evidence 4096 then 1
    else if ltb scratch 4096 then 2
    else pattern_refusal s

-- what is answered where nothing is refused: e and e' are the evidence before and after, w and w' the scratch
pub record Answers (s e e' w w' : List ℕ) (v : Vetted) : Type 0 where
  pub judged : Judged (pattern_graph s) e e' v
  pub scratch : length w' ≡ length w
  -- [Memory] the numbers of scratch beyond the first 4,096 are as before
  pub beyond : (i : ℕ) → 4096 ≤ i → get_or w' i 0 ≡ get_or w i 0

-- [Memory] after a refusal all lent memory is as before
pub record Declined (e e' w w' : List ℕ) : Type 0 where
  pub evidence : e' ≡ e
  pub scratch : w' ≡ w

pub record VetSays (s e e' w w' : List ℕ) (r : Result Vetted Refusal) : Type 0 where
  pub refusal : refusal_of r ≡ vet_refusal s (length e) (length w)
  pub outcome : MatchResult r (Answers s e e' w w') (λ _. Declined e e' w w')
