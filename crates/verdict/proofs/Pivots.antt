-- A pivot has two different loops over one text, and a position with two such loops is a pivot; `first_pivot` is the least of
-- the pivots; and where there is none, links are single. Assumes nothing.
use mathlib.Core.Path.{◌≡◌, sym, ap, ap₂, ◌∙◌, subst}
use mathlib.Core.Logic.{⊎_elim}
use mathlib.Core.Bool.{Bool, true, false, ◌&&◌}
use mathlib.Core.List.{List, ◌∷◌, head-eq_of_cons-eq}
use Prim.Native.Nat.{ℕ, suc, ◌≤◌, ◌<◌}
use native.Mathlib.Omega.{arith}
use lib.Dec.{eqb}
use lib.ListN.{length}
use borrow.Author.Tests.{eqb-true, eq-eqb}
use Rattle.basics.specs.Lists.{end_of}
use Rattle.basics.proofs.Tests.{and_parts, and_of, by_test}
use Rattle.basics.proofs.Folds.{least, list_first, list_none}
use Rattle.alphabet.specs.Alphabet.{all_letters}
use Rattle.graph.specs.Graph.{Graph, is_position, doubled, SingleLinks}
use Rattle.graph.specs.Readings.{Transition, transition, path}
use Rattle.graph.proofs.Links.{several_of, several_some}
use Rattle.graph.proofs.Walks.{position_of, plain, path_plain, Goes, walk_plain}
use Rattle.graph.specs.Trim.{Looped, Trim}
use Rattle.verdict.specs.Evidence.{shown, longest}
use Rattle.verdict.specs.Verdict.{is_pivot, first_pivot}
use Rattle.verdict.proofs.Routes.{route_walk}
use Rattle.verdict.proofs.Steady.{NoPivot}
use Rattle.verdict.proofs.Parting.{Parting, parting, walks_same, walks_part}

-- ---- the first pivot

module _ (g : Graph) where
  abbrev pivot_at : ℕ → Bool
  pivot_at q = is_position g q && is_pivot g q

  position_low : (q : ℕ) → is_position g q ≡ true → q < suc g.positions
  position_low q h = let p = position_of g q h in omega arith

  pub first_pivot_is : (first_pivot g ≡ 0 → ⊥) → (is_position g (first_pivot g) ≡ true) × (is_pivot g (first_pivot g) ≡ true) × ((q : ℕ) → is_position g q ≡ true → q < first_pivot g → is_pivot g q ≡ false)
  first_pivot_is h =
      ⊎_elim (λ none. absurd (h (list_none pivot_at (suc g.positions) 0 none)))
      (λ r.
      let t = r.0 in
      let p = and_parts (is_position g t) (is_pivot g t) r.2.here in
      subst (λ (x : ℕ). (is_position g x ≡ true) × (is_pivot g x ≡ true) × ((q : ℕ) → is_position g q ≡ true → q < x → is_pivot g q ≡ false)) (sym (list_first pivot_at (suc g.positions) 0 t r.1 r.2))
      (p.0, p.1, λ q i l. ap (λ (b : Bool). b && is_pivot g q) (sym i) ∙ r.2.none q l))
      (least pivot_at (suc g.positions))

  not_pivot : (q : ℕ) → (is_position g q ≡ true → is_pivot g q ≡ false) → pivot_at q ≡ false
  not_pivot q h = by_test (is_position g q) (λ i. ap₂ ◌&&◌ i (h i)) (λ i. ap (λ (b : Bool). b && is_pivot g q) i)

  pub pivot_is_first : (q : ℕ) → is_position g q ≡ true → is_pivot g q ≡ true → ((j : ℕ) → is_position g j ≡ true → j < q → is_pivot g j ≡ false) → first_pivot g ≡ q
  pivot_is_first q i h none = list_first pivot_at (suc g.positions) 0 q (position_low q i) (record { here = and_of (is_position g q) (is_pivot g q) i h; none = λ j l. not_pivot j (λ k. none j k l) })

  pub pivot_none : ((q : ℕ) → is_position g q ≡ true → is_pivot g q ≡ false) → first_pivot g ≡ 0
  pivot_none h = list_none pivot_at (suc g.positions) 0 (λ q l. not_pivot q (h q))

  pub none_pivot : first_pivot g ≡ 0 → (q : ℕ) → is_position g q ≡ true → is_pivot g q ≡ false
  none_pivot h q i =
      ⊎_elim (λ none. ap (λ (b : Bool). b && is_pivot g q) (sym i) ∙ none q (position_low q i))
      (λ r.
      let e = list_first pivot_at (suc g.positions) 0 r.0 r.1 r.2 in
      let p = position_of g r.0 (and_parts (is_position g r.0) (is_pivot g r.0) r.2.here).0 in
      absurd (omega arith))
      (least pivot_at (suc g.positions))

-- ---- its loops

-- two different loops at q over the text shown for them
pub record Loops (g : Graph) (q : ℕ) : Type 0 where
  pub text : List ℕ
  pub one : List Transition
  pub other : List Transition
  pub letters_shown : text ≡ shown g (path one) (path other)
  pub goes_one : Goes g q text one
  pub goes_other : Goes g q text other
  pub one_back : end_of q (path one) ≡ q
  pub other_back : end_of q (path other) ≡ q
  pub differ : one ≡ other → ⊥
  pub letters : all_letters text ≡ true
  pub some : 1 ≤ length text
  pub few : length text ≤ longest g

abbrev pub back_to : ℕ → ℕ → ℕ → Bool
back_to q c d = eqb c q && eqb d q

both_back : (q c d : ℕ) → c ≡ q → d ≡ q → back_to q c d ≡ true
both_back q c d e f = and_of (eqb c q) (eqb d q) (eq-eqb c q e) (eq-eqb d q f)

abbrev pub parting_loops : (g : Graph) (q : ℕ) → Parting g q (back_to q) → Loops g q
parting_loops g q p =
    let b = and_parts (eqb (end_of q (path p.one)) q) (eqb (end_of q (path p.other)) q) p.passes in
    record {
      text = p.text;
      one = p.one;
      other = p.other;
      letters_shown = p.letters_shown;
      goes_one = p.goes_one;
      goes_other = p.goes_other;
      one_back = eqb-true (end_of q (path p.one)) q b.0;
      other_back = eqb-true (end_of q (path p.other)) q b.1;
      differ = p.differ;
      letters = p.letters;
      some = p.some;
      few = p.few;
    }

module _ (g : Graph) (trim : Trim g) where
  pub pivot_loops : (q : ℕ) → is_pivot g q ≡ true → Loops g q
  pivot_loops q h = parting_loops g q (parting g trim q (back_to q) h)

  pub loops_pivot : (q : ℕ) (s : List ℕ) (c d : List Transition) → Goes g q s c → Goes g q s d → end_of q (path c) ≡ q → end_of q (path d) ≡ q → (c ≡ d → ⊥) → is_pivot g q ≡ true
  loops_pivot q s c d v w e f = walks_part g trim q (back_to q) s c d v w (both_back q (end_of q (path c)) (end_of q (path d)) e f)

  no_pivot : first_pivot g ≡ 0 → (q : ℕ) → is_position g q ≡ true → (s : List ℕ) (c d : List Transition) → Goes g q s c → Goes g q s d → end_of q (path c) ≡ q → end_of q (path d) ≡ q → c ≡ d
  no_pivot h q i s c d v w e f = walks_same g trim q (back_to q) (none_pivot g h q i) s c d v w (both_back q (end_of q (path c)) (end_of q (path d)) e f)

  -- ---- without a pivot

  -- two walks by positions from one back to it over one text are one
  pub no_loops : first_pivot g ≡ 0 → NoPivot g
  no_loops h q i s c d v w e f =
      sym (path_plain c)
      ∙ ap path (no_pivot h q i s (plain c) (plain d) (walk_plain g q s c v) (walk_plain g q s d w) (ap (end_of q) (path_plain c) ∙ e) (ap (end_of q) (path_plain d) ∙ f))
      ∙ path_plain d

  -- links are single: two of them would be two loops, on by either and back by the same way
  pub no_doubled : first_pivot g ≡ 0 → SingleLinks g
  no_doubled h u i = by_test (doubled g u i) (λ e. absurd (two (trim.looped u i e) e)) (λ e. e)
    where
      two : (is_position g u ≡ true) × (is_position g i ≡ true) × Looped g u i → doubled g u i ≡ true → ⊥
      two l e =
          let two = several_of (g.links u i) e in
          let r = l.2.way in
          let c = i ∷ r in
          let w = route_walk g trim u c (l.1, several_some (g.links u i) e, l.2.goes) in
          let one = walk_plain g u (shown g c c) c w in
          let other : Goes g u (shown g c c) (transition i 1 ∷ plain r) = (one.0, (omega arith, one.1.1)) in
          let back : end_of u (path (plain c)) ≡ u = ap (end_of u) (path_plain c) ∙ l.2.back in
          let same = no_pivot h u l.0 (shown g c c) (plain c) (transition i 1 ∷ plain r) one other back back in
          let z : ◌≡◌ {A = ℕ} 0 1 = ap (λ (t : Transition). t.link) (head-eq_of_cons-eq same) in
          omega arith
