-- What each verdict says of the number of readings of every text. Assumes nothing.
use mathlib.Core.Path.{◌≡◌, sym, ap, ◌∙◌, subst}
use mathlib.Core.Logic.{◌↔◌}
use mathlib.Core.Bool.{true, false, not}
use mathlib.Core.List.{List, [], ◌∷◌, ◌++◌, map, append-nil}
use Prim.Native.Nat.{ℕ, ◌+◌, ◌*◌, ◌^◌, ◌≤◌}
use native.Mathlib.Nat.{le_refl}
use native.Mathlib.Omega.{arith}
use lib.Dec.{eqb}
use lib.ListN.{length, length-map}
use borrow.Author.Tests.{eq-eqb, ne_eqb}
use Rattle.std.specs.Prelude.{if◌then◌else◌}
use Rattle.basics.specs.Lists.{Each, Apart}
use Rattle.basics.proofs.Tests.{by_test, by_equal, if_yes, if_no}
use Rattle.basics.proofs.Lists.{each_map, map_each, map_apart}
use Rattle.alphabet.specs.Alphabet.{all_letters}
use Rattle.graph.specs.Graph.{Graph}
use Rattle.graph.specs.Readings.{Transition, path, is_reading, readings}
use Rattle.graph.proofs.Walks.{Walk, plain, Goes, Reads, reads_goes, goes_reads, takes_single}
use Rattle.graph.proofs.Counting.{readings_most, readings_bound, two_count}
use Rattle.graph.specs.Trim.{Trim}
use Rattle.verdict.specs.Verdict.{ambiguous, first_pivot, verdict}
use Rattle.verdict.specs.Evidence.{times, ShowsSteady, ShowsRunaway}
use Rattle.verdict.proofs.Steady.{steady}
use Rattle.verdict.proofs.Doubling.{doubling}
use Rattle.verdict.proofs.Pivots.{no_loops, no_doubled}
use Rattle.verdict.proofs.Shows.{unambiguous, steady_shows, runaway_shows, runaway_rounds}

-- ---- the three verdicts

pub is_runaway : (g : Graph) → (first_pivot g ≡ 0 → ⊥) → verdict g ≡ 2
is_runaway g d = if_yes 2 (if ambiguous g then 1 else 0) (not (eqb (first_pivot g) 0)) (ap not (ne_eqb (first_pivot g) 0 d))

pub no_runaway : (g : Graph) → first_pivot g ≡ 0 → verdict g ≡ (if ambiguous g then 1 else 0)
no_runaway g e = if_no 2 (if ambiguous g then 1 else 0) (not (eqb (first_pivot g) 0)) (ap not (eq-eqb (first_pivot g) 0 e))

pub is_steady : (g : Graph) → first_pivot g ≡ 0 → ambiguous g ≡ true → verdict g ≡ 1
is_steady g e a = no_runaway g e ∙ if_yes {A = ℕ} 1 0 (ambiguous g) a

pub is_single : (g : Graph) → first_pivot g ≡ 0 → ambiguous g ≡ false → verdict g ≡ 0
is_single g e a = no_runaway g e ∙ if_no {A = ℕ} 1 0 (ambiguous g) a

-- to show a fact of a graph, show it in the three cases
pub by_verdict {ℓ} : {P : Type ℓ} (g : Graph) → (verdict g ≡ 0 → ambiguous g ≡ false → P) → (verdict g ≡ 1 → ambiguous g ≡ true → P) → (verdict g ≡ 2 → (first_pivot g ≡ 0 → ⊥) → P) → P
by_verdict g single steady runaway =
    by_equal (first_pivot g) 0 (λ e. by_test (ambiguous g) (λ a. steady (is_steady g e a) a) (λ a. single (is_single g e a) a)) (λ d. runaway (is_runaway g d) d)

pub verdict_low : (g : Graph) → verdict g ≤ 2
verdict_low g = by_verdict g (λ e a. omega arith) (λ e a. omega arith) (λ e d. omega arith)

-- ---- what is shown

-- a steady text has two readings
pub steady_shown : (g : Graph) (s : List ℕ) → ShowsSteady g s → 2 ≤ readings g s
steady_shown g s r = two_count g s r.one r.other r.reads_one r.reads_other r.differ

-- a runaway's readings double with each turn
pub runaway_shown : (g : Graph) (x y z : List ℕ) → ShowsRunaway g x y z → (k : ℕ) → 2 ^ k ≤ readings g (x ++ (times k y ++ z))
runaway_shown g x y z r k =
    let t = x ++ (times k y ++ z) in
    let m = doubling g x y z (runaway_rounds g x y z r) k in
    subst (λ (n : ℕ). n ≤ readings g t) m.size
    (readings_most g t m.all m.apart (each_map (Reads g 0 t) (λ (q : List Transition). is_reading g t q ≡ true) (goes_reads g 0 t) m.all m.each))

-- ---- what follows for every text

-- different readings are at most one where any two are equal
at_most_one : {A : Type 0} (P : A → Type 0) → ((x y : A) → P x → P y → x ≡ y) → (xs : List A) → Apart xs → Each P xs → length xs ≤ 1
at_most_one P same [] a h = omega arith
at_most_one P same (x ∷ []) a h = le_refl 1
at_most_one P same (x ∷ (y ∷ xs)) a h = absurd (a.0.0 (same x y h.0 h.1.0))

module _ (g : Graph) (trim : Trim g) where
  -- single: no text has two readings
  single_most : ambiguous g ≡ false → (s : List ℕ) → readings g s ≤ 1
  single_most a s = readings_bound g s 1 (at_most_one (λ (r : List Transition). is_reading g s r ≡ true) (unambiguous g trim a s))

  pub single : (verdict g ≡ 0) ↔ ((s : List ℕ) → all_letters s ≡ true → readings g s ≤ 1)
  single = (
    λ v s l. by_verdict g (λ e a. single_most a s) (λ e a. absurd (omega arith)) (λ e d. absurd (omega arith)),
    λ h. by_verdict g (λ e a. e)
        (λ e a. let w = steady_shows g trim a in let two = steady_shown g w.0 w.1 in let one = h w.0 w.1.letters in absurd (omega arith))
        (λ e d.
        let w = runaway_shows g trim d in
        let x = w.0 in
        let y = w.1 in
        let z = w.2 in
        let t : x ++ (times 1 y ++ z) ≡ x ++ (y ++ z) = ap (λ (u : List ℕ). x ++ (u ++ z)) (append-nil y) in
        let two = subst (λ (u : List ℕ). 2 ≤ readings g u) t (runaway_shown g x y z w.3 1) in
        let one = h (x ++ (y ++ z)) w.3.letters in
        absurd (omega arith)),
  )

  -- not runaway: a text of m letters has at most (m + 2) ^ (2 p), since links are single and readings are told by their positions
  pub bounded : (verdict g ≡ 2 → ⊥) → (s : List ℕ) → readings g s ≤ (length s + 2) ^ (2 * g.positions)
  bounded n s =
      let e : first_pivot g ≡ 0 = by_equal (first_pivot g) 0 (λ z. z) (λ d. absurd (n (is_runaway g d))) in
      let single = no_doubled g trim e in
      readings_bound g s ((length s + 2) ^ (2 * g.positions))
      (λ rs a h.
      let all = each_map (λ (r : List Transition). is_reading g s r ≡ true) (Goes g 0 s) (λ r k. (reads_goes g 0 s r k).0) rs h in
      let told : (r q : List Transition) → Goes g 0 s r → Goes g 0 s q → path r ≡ path q → r ≡ q =
      λ r q x y z. takes_single g single 0 r x.1 ∙ ap plain z ∙ sym (takes_single g single 0 q y.1) in
      subst (λ (k : ℕ). k ≤ (length s + 2) ^ (2 * g.positions)) (length-map rs path)
      (steady g (no_loops g trim e) 0 s (map path rs) (map_apart path (Goes g 0 s) told rs a all)
      (map_each path (Walk g 0 s) rs (each_map (Goes g 0 s) (λ (r : List Transition). Walk g 0 s (path r)) (λ r k. k.0) rs all))))

  -- steady: there is a text to show
  pub steady_can : verdict g ≡ 1 → (s : List ℕ) × ShowsSteady g s
  steady_can v = by_verdict g (λ e a. absurd (omega arith)) (λ e a. steady_shows g trim a) (λ e d. absurd (omega arith))

  -- runaway: there are texts to show
  pub runaway_can : verdict g ≡ 2 → (x : List ℕ) × (y : List ℕ) × (z : List ℕ) × ShowsRunaway g x y z
  runaway_can v = by_verdict g (λ e a. absurd (omega arith)) (λ e a. absurd (omega arith)) (λ e d. runaway_shows g trim d)
