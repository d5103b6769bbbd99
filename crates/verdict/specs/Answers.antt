-- What vetting answers, over the numbers that it returns: the verdict v, the three lengths l, m and n, and the texts at the
-- beginning of the evidence. e and e' are the evidence before and after.
use Rattle.std.specs.Prelude.{◌≡◌, List, ◌++◌, ℕ, zero, suc, length, drop}
use Rattle.graph.specs.Graph.{Graph}
use Rattle.verdict.specs.Verdict.{verdict}
use Rattle.verdict.specs.Evidence.{ShowsSteady, ShowsRunaway}

-- [Memory] a text at the beginning of e', and beyond it the bytes of e
abbrev pub Begins : List ℕ → List ℕ → List ℕ → Type 0
Begins s e e' = e' ≡ s ++ drop (length s) e

-- [Vetting] single: the lengths are 0, and nothing is written
pub record Single (e e' : List ℕ) (l m n : ℕ) : Type 0 where
  pub first : l ≡ 0
  pub second : m ≡ 0
  pub third : n ≡ 0
  pub kept : e' ≡ e

-- [Vetting] steady: a text, and its length first
pub record Steady (g : Graph) (e e' : List ℕ) (l m n : ℕ) : Type 0 where
  pub text : List ℕ
  pub shows : ShowsSteady g text
  pub first : l ≡ length text
  pub second : m ≡ 0
  pub third : n ≡ 0
  pub written : Begins text e e'

-- [Vetting] runaway: x, y and z one after the other, and their lengths
pub record Runaway (g : Graph) (e e' : List ℕ) (l m n : ℕ) : Type 0 where
  pub x : List ℕ
  pub y : List ℕ
  pub z : List ℕ
  pub shows : ShowsRunaway g x y z
  pub first : l ≡ length x
  pub second : m ≡ length y
  pub third : n ≡ length z
  pub written : Begins (x ++ (y ++ z)) e e'

-- what is shown, by the verdict
abbrev pub ShowsBy : ℕ → Graph → List ℕ → List ℕ → ℕ → ℕ → ℕ → Type 0
ShowsBy zero g e e' l m n = Single e e' l m n
ShowsBy (suc zero) g e e' l m n = Steady g e e' l m n
ShowsBy (suc (suc k)) g e e' l m n = Runaway g e e' l m n

-- the verdict is the rules', and its texts are shown
pub record Vets (g : Graph) (e e' : List ℕ) (v l m n : ℕ) : Type 0 where
  pub verdict_is : v ≡ verdict g
  pub shows : ShowsBy v g e e' l m n
