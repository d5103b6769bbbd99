-- Vetting a pattern, refusal by refusal: which of the tests decides, what is promised then, and what a result says. Assumes nothing.
use mathlib.Core.Path.{◌≡◌, refl, sym, ap, ◌∙◌, subst}
use mathlib.Core.List.{List, ◌++◌}
use Prim.Native.Nat.{ℕ, ◌-◌, ◌≤◌}
use native.Mathlib.Omega.{arith}
use lib.Dec.{ltb}
use lib.ListN.{length, get_or, take, drop}
use borrow.Author.Tests.{le-ltb}
use Rattle.std.specs.Prelude.{if◌then◌else◌, Ok, Err}
use Rattle.basics.proofs.Tests.{if_no}
use Rattle.graph.specs.Graph.{Graph}
use Rattle.graph.specs.Trim.{Trim}
use Rattle.pattern.specs.Refusals.{pattern_refusal, number_of}
use Rattle.pattern.specs.Positions.{pattern_graph}
use Rattle.pattern.specs.declared.Refusal.{Refusal}
use Rattle.pattern.proofs.Doubled.{trim}
use Rattle.vetting.specs.Answers.{Judged}
use Rattle.vetting.specs.declared.Vetted.{Vetted}
use Rattle.calls.specs.Vetting.{vet_refusal, VetSays}
use Rattle.std.proofs.lemmas.Grind.{common_steps}
use Rattle.std.proofs.lemmas.List.{length-append, length-take-le, length-drop, get_or-drop, get_or-append_right}

-- ---- which refusal

module _ (s : List ℕ) (e w : ℕ) where
  abbrev of_scratch : ℕ
  of_scratch = if ltb w 4096 then 2 else pattern_refusal s

  by_scratch : 4096 ≤ e → vet_refusal s e w ≡ of_scratch
  by_scratch l = if_no 1 of_scratch (ltb e 4096) (le-ltb e 4096 l)

  pub by_pattern : 4096 ≤ e → 4096 ≤ w → vet_refusal s e w ≡ pattern_refusal s
  by_pattern l k = by_scratch l ∙ if_no 2 (pattern_refusal s) (ltb w 4096) (le-ltb w 4096 k)

  -- where none of them applies, none of the pattern's does
  pub accepts : vet_refusal s e w ≡ 0 → pattern_refusal s ≡ 0
  accepts f = grind (arith, common_steps)

-- ---- what is promised

pub says_refusal : (r : Refusal) (s e w : List ℕ) → vet_refusal s (length e) (length w) ≡ number_of r → VetSays s e e w w (Err r)
says_refusal r s e w f = record { refusal = sym f; outcome = record { evidence = refl; scratch = refl } }

-- the graph g that was built is the pattern's
pub trim_built : (s : List ℕ) (g : Graph) → g ≡ pattern_graph s → pattern_refusal s ≡ 0 → Trim g
trim_built s g e f = subst Trim (sym e) (trim s f)

-- the first 4,096 numbers of scratch became u
pub says_verdict : (s e e' w u : List ℕ) (g : Graph) (v : Vetted) → vet_refusal s (length e) (length w) ≡ 0 → g ≡ pattern_graph s → Judged g e e' v → 4096 ≤ length w → length u ≡ length (take 4096 w)
    → VetSays s e e' w (u ++ drop 4096 w) (Ok v)
says_verdict s e e' w u g v f p h enough kept =
    let l : length u ≡ 4096 = kept ∙ length-take-le 4096 w enough in
    record {
      refusal = sym f;
      outcome = record {
        judged = subst (λ (x : Graph). Judged x e e' v) p h;
        scratch = omega (arith, length-append u (drop 4096 w), length-drop 4096 w);
        beyond = λ i from. get_or-append_right u (drop 4096 w) 4096 i 0 l from ∙ get_or-drop 4096 w (i - 4096) 0 ∙ ap (λ (k : ℕ). get_or w k 0) (omega arith);
      };
    }
