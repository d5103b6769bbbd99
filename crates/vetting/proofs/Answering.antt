-- From searches and their texts to what vetting answers, for a built pattern: the tables say what the graph says, a chain of nodes
-- without one twice is short, and its text is that shown for two walks or for a route. Assumes nothing.
use mathlib.Core.Path.{◌≡◌, refl, sym, ap, ap₂, ◌∙◌, subst}
use mathlib.Core.Logic.{⊎_elim}
use mathlib.Core.Bool.{Bool, true, ◌&&◌, not, true≢false, false≢true}
use mathlib.Core.List.{List, [], ◌∷◌, ◌++◌, map, append_assoc}
use Prim.Native.Nat.{ℕ, ◌+◌, ◌-◌, ◌≤◌, ◌<◌, zero-le}
use native.Mathlib.Omega.{arith}
use borrow.Author.Tests.{eqb-true, eq-eqb, ne_eqb, lt-ltb, le-leb}
use lib.Dec.{eqb}
use lib.ListN.{get_or, length, take, drop, length-map, length-append, replicate}
use lib.Seq.{take_at, drop-append-add, drop-drop}
use Rattle.std.specs.Prelude.{if◌then◌else◌, Option, None, Some, IsSome}
use Rattle.basics.specs.Lists.{Each, end_of}
use Rattle.basics.proofs.Tests.{and_parts, and_of, if_yes, if_no}
use Rattle.basics.proofs.Lists.{zeros, pigeon}
use Rattle.bits.specs.Bits.{has_bit}
use Rattle.bits.proofs.Laws.{has_none}
use Rattle.alphabet.specs.Alphabet.{some_letter, lowest_letter}
use Rattle.alphabet.proofs.Alphabet.{lowest_letter_is, letter_some}
use Rattle.letters.specs.declared.LetterSet.{LetterSet}
use Rattle.graph.specs.declared.Built.{Built}
use Rattle.graph.specs.Graph.{Graph, is_position}
use Rattle.graph.specs.Readings.{readings}
use Rattle.graph.specs.Built.{graph_of_built}
use Rattle.graph.specs.Trim.{Route, Useful}
use Rattle.graph.proofs.Links.{built_next, built_doubled}
use Rattle.graph.proofs.Walks.{position_of}
use Rattle.verdict.specs.Pairs.{both_hold, shares, letter_shown}
use Rattle.verdict.specs.Verdict.{parts_to, ambiguous, is_pivot, first_pivot, verdict}
use Rattle.verdict.specs.Evidence.{shown, ShowsSteady, ShowsRunaway}
use Rattle.verdict.specs.Answers.{Begins}
use Rattle.verdict.proofs.Pairs.{place_low, place_told}
use Rattle.verdict.proofs.Routes.{led}
use Rattle.verdict.proofs.Flags.{start}
use Rattle.verdict.proofs.Parting.{Parting, short_parting}
use Rattle.verdict.proofs.Pivots.{first_pivot_is, back_to, Loops, parting_loops}
use Rattle.verdict.proofs.Shows.{both_last, two_parted, parting_steady, Nearest, loops_runaway}
use Rattle.search.specs.declared.Goal.{Goal}
use Rattle.search.specs.declared.Goal.TheVariants.{OnePath, Parted}
use Rattle.nodes.specs.Nodes.{left_of, right_of, Step, single, beside}
use Rattle.search.specs.Search.{is_goal, IsFirstPivot}
use Rattle.shares.specs.Tables.{Rows, Tables, Within, is_doubled, held}
use Rattle.nodes.specs.declared.Steps.{Steps}
use Rattle.texts.specs.Texts.{letter_at, Showable, ShownText, Shown}
use Rattle.vetting.specs.declared.Verdict.{Verdict}
use Rattle.vetting.specs.declared.Verdict.TheVariants.{Single, Steady, Runaway}
use Rattle.vetting.specs.Answers.{Vettable, Reported}
use Rattle.nodes.proofs.Nodes.{left_low, right_low, sides}
use Rattle.search.proofs.Moves.{shares_swap, code}
use Rattle.search.proofs.Visiting.{goal_low}
use Rattle.search.proofs.Found.{both_in, parted, parted_chain, short_nodes, shown_codes, some_parts, none_parts, letter_of, chain_route, route_chain}
use Rattle.search.proofs.Pivoting.{equal_swap}
use Rattle.std.proofs.lemmas.Grind.{common_steps}

-- ---- texts one after the other

begins_more : (p y e e' e'' : List ℕ) (n m : ℕ) → length p ≡ n → length y ≡ m → Begins p e e' → e'' ≡ take n e' ++ (y ++ drop (n + m) e') → Begins (p ++ y) e e''
begins_more p y e e' e'' n m a b h k = grind (arith, common_steps, take_at, drop-append-add, drop-drop, length-append, append_assoc)

-- ---- a text that is shown

pub text_of : (sets : List LetterSet) (t : Steps) (e e' : List ℕ) (goal : Goal) (start base : ℕ) {r : Option ℕ} {n : ℕ} → r ≡ Some n → Shown sets t e e' goal start base r → ShownText sets t e e' goal start base n
text_of sets t e e' goal start base is s = subst (Shown sets t e e' goal start base) is s

-- ---- the same report, of what the arms of a choice come to

pub report_of : {g : Graph} {e e1 e2 : List ℕ} {v w : Verdict} → e1 ≡ e2 → v ≡ w → Reported g e e2 w → Reported g e e1 v
report_of {g} {e} {e1} {w = w} same is r = subst (Reported g e e1) (sym is) (subst (λ (x : List ℕ). Reported g e x w) (sym same) r)

-- ---- the tables of a built pattern

module _ {b : Built} {more : List ℕ} (fit : Vettable b more) where
  abbrev g : Graph
  g = graph_of_built b more

  pub within : Within b.follow
  within u i h = let p = position_of g i (fit.bounded.next_to u i (built_next b more u i ∙ h)) in omega (arith, fit.bounded.few)

  own : (a : ℕ) → is_position g a ≡ true → shares g a a ≡ true
  own a h =
      let c = lowest_letter_is (g.holds a) (fit.trim.lettered a h) in
      let l = lowest_letter (g.holds a) in
      letter_some (both_hold g a a) l c.0 (and_of (g.holds a l) (g.holds a l) c.1 c.1)

  pub tables_of : (D S : List ℕ) → ((u i : ℕ) → u ≤ b.positions → has_bit (get_or D u 0) i ≡ is_doubled b.follow more u i)
      → ((a c : ℕ) → a ≤ b.positions → c ≤ b.positions → has_bit (get_or S a 0) c ≡ some_letter (held b.letters a c)) → Tables g (record { follow = b.follow; doubles = D; shares = S })
  tables_of D S h k = grind (arith, common_steps, built_next, and_parts, position_of, and_of, le-leb, lt-ltb, built_doubled, own)

  -- ---- each node that a step leads to has a letter

  -- where the rows S say that two positions share a letter, they do
  abbrev Honest : List ℕ → Type 0
  Honest S = (a c : ℕ) → is_position g a ≡ true → is_position g c ≡ true → has_bit (get_or S a 0) c ≡ true → shares g a c ≡ true

  shows_letter : {t : Steps} → Rows g t.follow → Honest t.shares → (x y : ℕ) → Step t x y → Showable b.letters y
  shows_letter rows h x y (single {a} l k) =
      let i = (rows.comes x a k).0 in
      let p = position_of g a i in
      let low : a < 64 = omega arith in
      let left = left_low a low in
      let right = right_low a low in
      record { left = omega arith; right = omega arith; some = ap₂ (shares g) left right ∙ own a i }
  shows_letter rows h x y (beside {a} {b = c} p) =
      let i = (rows.comes (left_of x) a p.left).0 in
      let j = (rows.comes (right_of x) c p.right).0 in
      let u = position_of g a i in
      let v = position_of g c j in
      let s = h a c i j p.share in
      ⊎_elim (λ e. let l = e.0 in let r = e.1 in record { left = omega arith; right = omega arith; some = ap₂ (shares g) l r ∙ s })
      (λ e. let l = e.0 in let r = e.1 in record { left = omega arith; right = omega arith; some = ap₂ (shares g) l r ∙ shares_swap g c a ∙ s })
      (sides a c (record { left_low = u.0; left_high = omega arith; right_low = v.0; right_high = omega arith })).sides

  pub showable : {t : Steps} → Tables g t → (x y : ℕ) → Step t x y → Showable b.letters y
  showable tables = shows_letter tables.rows (λ a c h k e. sym (tables.shares.share a c h k) ∙ e)

  -- the steps of one path, since with no letters shared paths never part
  abbrev pub alone : Steps → Steps
  alone t = record { follow = t.follow; doubles = t.doubles; shares = replicate 61 0 }

  pub showable_alone : {t : Steps} → Tables g t → (x y : ℕ) → Step (alone t) x y → Showable b.letters y
  showable_alone tables = shows_letter tables.rows (λ a c h k e. absurd (false≢true (sym (ap (λ (x : ℕ). has_bit x c) (zeros 61 a) ∙ has_none c) ∙ e)))

  -- ---- two paths

  text_same : (nodes : List ℕ) → map (letter_at b.letters) nodes ≡ map (letter_of g) nodes
  unfolding letter_at
  text_same nodes = refl

  -- the two walks of a chain of nodes to a goal, over its text
  record Walks (nodes : List ℕ) (u : ℕ) (test : ℕ → ℕ → Bool) : Type 0 where
    walks : Parting g u test
    text : map (letter_at b.letters) nodes ≡ walks.text

  two_walks : {t : Steps} → Tables g t → {m : ℕ} (test : ℕ → ℕ → Bool) → ((c d : ℕ) → both_in m c d ≡ test c d) → {e e' : List ℕ} {u base r : ℕ} → u ≤ g.positions
      → (s : ShownText b.letters t e e' (Parted m) u base r) → Walks s.nodes u test
  two_walks tables {m} test same {u = u} l t =
      let w = parted tables m u l t.nodes t.goes t.meets in
      record {
        walks = short_parting g fit.trim u test w.to (sym (same w.to.left w.to.right) ∙ w.passes) (short_nodes tables m u t.nodes t.apart w);
        text = text_same t.nodes ∙ ap (map (letter_of g)) (sym w.are) ∙ shown_codes tables (start u) w.nodes w.goes;
      }

  -- ---- one path

  route_text : (u : ℕ) (r : List ℕ) → Route g u r → map (letter_of g) r ≡ shown g r r
  route_text u [] h = refl
  route_text u (i ∷ r) h =
      let p = position_of g i h.0 in
      let low : i < 64 = omega arith in
      ap₂ ◌∷◌ (ap₂ (letter_shown g) (left_low i low) (right_low i low)) (route_text i r h.2)

  route_each : (u : ℕ) (r : List ℕ) → Route g u r → Each (λ (i : ℕ). is_position g i ≡ true) r
  route_each u [] h = tt
  route_each u (i ∷ r) h = (h.0, route_each i r h.2)

  route_end : (u : ℕ) (r : List ℕ) → u ≤ g.positions → Route g u r → end_of u r ≤ g.positions
  route_end u [] l h = l
  route_end u (i ∷ r) l h = route_end i r (position_of g i h.0).1 h.2

  goal_at : (m u : ℕ) (r : List ℕ) → u ≤ g.positions → Route g u r → is_goal (OnePath m) (end_of u r) ≡ has_bit m (end_of u r)
  goal_at m u r l h = goal_low (OnePath m) (end_of u r) (omega (arith, route_end u r l h))

  -- with no letters shared, a chain of nodes is a route
  record Routed (nodes : List ℕ) (u m : ℕ) : Type 0 where
    route : Route g u nodes
    meets : has_bit m (end_of u nodes) ≡ true
    short : length nodes ≤ g.positions
    text : map (letter_at b.letters) nodes ≡ shown g nodes nodes

  abbrev ShownRoute : Steps → List ℕ → List ℕ → ℕ → ℕ → ℕ → ℕ → Type 0
  ShownRoute t e e' m u base r = ShownText b.letters (alone t) e e' (OnePath m) u base r

  routed : {t : Steps} → Tables g t → {m : ℕ} {e e' : List ℕ} {u base r : ℕ} → u ≤ g.positions → (s : ShownRoute t e e' m u base r) → Routed s.nodes u m
  routed {t} tables {m} {u = u} l s =
      let h = chain_route (alone t) tables.rows refl u s.nodes s.goes in
      record {
        route = h;
        meets = sym (goal_at m u s.nodes l h) ∙ s.meets;
        short = pigeon (λ (i : ℕ). i - 1) (λ (i : ℕ). is_position g i ≡ true) g.positions (place_low g) (place_told g) s.nodes s.apart (route_each u s.nodes h);
        text = text_same s.nodes ∙ route_text u s.nodes h;
      }

  -- where there is a route, a search finds one
  route_some : {t : Steps} → Tables g t → (m : ℕ) (e e' : List ℕ) {u : ℕ} (base : ℕ) (r : Option ℕ) (c : List ℕ) → u ≤ g.positions → Route g u c → has_bit m (end_of u c) ≡ true
      → Shown b.letters (alone t) e e' (OnePath m) u base r → IsSome r
  route_some {t} tables m e e' {u} base None c l h k s = grind (arith, common_steps, true≢false, goal_at, route_chain)
  route_some tables m e e' base (Some r) c l h k s = refl

  -- ---- no pivot

  verdict_low : first_pivot g ≡ 0 → verdict g ≡ (if ambiguous g then 1 else 0)
  verdict_low z = if_no 2 (if ambiguous g then 1 else 0) (not (eqb (first_pivot g) 0)) (ap not (eq-eqb (first_pivot g) 0 z))

  module _ {t : Steps} (tables : Tables g t) (none : first_pivot g ≡ 0) {e e' : List ℕ} where
    pub single_answer : Shown b.letters t e e' (Parted b.lasts) 0 0 None → Reported g e e' Single
    single_answer n = record {
      verdict_is = sym (verdict_low none ∙ if_no 1 0 (ambiguous g) (none_parts tables b.lasts 0 zero-le n.1));
      shows = record { first = refl; second = refl; third = refl; kept = n.0 };
    }

    -- a text with two readings is a chain of steps to a goal, and no such chain is shorter than what the search finds
    two_shortest : {r : ℕ} → ShownText b.letters t e e' (Parted b.lasts) 0 0 r → (u : List ℕ) → 2 ≤ readings g u → r ≤ length u
    two_shortest s u h =
        let k = two_parted g fit.trim u h in
        let c = k.paths.way.nodes in
        let goes = parted_chain tables b.lasts 0 zero-le k.paths in
        omega (arith, s.nearest (map code c) goes.0 goes.1, length-map c code, k.size)

    pub steady_answer : {r : ℕ} → ShownText b.letters t e e' (Parted b.lasts) 0 0 r → Reported g e e' (Steady r)
    steady_answer {r} s =
        let w = two_walks tables (both_last g) (λ c d. refl) zero-le s in
        let text = map (letter_at b.letters) s.nodes in
        let size : length text ≡ r = length-map s.nodes (letter_at b.letters) ∙ s.size in
        record {
          verdict_is = sym (verdict_low none ∙ if_yes 1 0 (ambiguous g) (some_parts tables b.lasts 0 zero-le s.nodes s.goes s.meets));
          shows = record {
            text = text;
            shows = subst (ShowsSteady g) (sym w.text) (parting_steady g w.walks (λ u h. omega (arith, two_shortest s u h, size, ap length w.text)));
            first = sym size;
            second = refl;
            third = refl;
            written = begins_more [] text e e e' 0 r refl size refl s.text;
          };
        }

  -- ---- a pivot

  shows_same : {x y z u v w : List ℕ} → x ≡ u → y ≡ v → z ≡ w → ShowsRunaway g u v w → ShowsRunaway g x y z
  shows_same {y = y} {z} {u} {v} c d e h = subst (λ (t : List ℕ). ShowsRunaway g t y z) (sym c) (subst (λ (t : List ℕ). ShowsRunaway g u t z) (sym d) (subst (ShowsRunaway g u v) (sym e) h))

  module _ {q : ℕ} (pivot : IsFirstPivot g (Some q)) where
    first : (is_position g q ≡ true) × (is_pivot g q ≡ true)
    first =
        let p = first_pivot_is g (λ z. omega (arith, pivot)) in
        (subst (λ (x : ℕ). is_position g x ≡ true) pivot.1 p.0, subst (λ (x : ℕ). is_pivot g x ≡ true) pivot.1 p.1)

    low : q ≤ g.positions
    low = (position_of g q first.0).1

    pub first_low : q ≤ 60
    first_low = omega (arith, low, fit.bounded.few)

    useful : Useful g q
    useful = fit.trim.useful q first.0

    at_pivot : (w : Useful g q) (l : Loops g q) → Nearest g q w.way_in → ShowsRunaway g (shown g w.way_in w.way_in) l.text (shown g w.way_out w.way_out)
    at_pivot =
        subst (λ (k : ℕ). is_position g k ≡ true → (w : Useful g k) (l : Loops g k) → Nearest g k w.way_in → ShowsRunaway g (shown g w.way_in w.way_in) l.text (shown g w.way_out w.way_out)) pivot.1
        (λ i w l near. loops_runaway g fit.trim i w l near) first.0

    -- each of the three searches finds its goal; m is the set of q alone
    module _ {t : Steps} (tables : Tables g t) (m : ℕ) (only : (j : ℕ) → has_bit m j ≡ eqb q j) where
      pub way_in_some : (e e' : List ℕ) (r : Option ℕ) → Shown b.letters (alone t) e e' (OnePath m) 0 0 r → IsSome r
      way_in_some e e' r = route_some tables m e e' 0 r useful.way_in zero-le useful.goes_in (only (end_of 0 useful.way_in) ∙ eq-eqb q (end_of 0 useful.way_in) (sym useful.comes))

      pub way_in_short : {e e' : List ℕ} {r : ℕ} → ShownRoute t e e' m 0 0 r → r ≤ 60
      way_in_short s = omega (arith, (routed tables zero-le s).short, s.size, fit.bounded.few)

      -- letters that lead to q lead there by a route, and no route there is shorter
      way_in_nearest : {e e' : List ℕ} {r : ℕ} → (s : ShownRoute t e e' m 0 0 r) → Nearest g q s.nodes
      way_in_nearest s u h =
          let l = led g 0 u q h in
          let meets = goal_at m 0 l.way zero-le l.goes ∙ ap (has_bit m) l.comes ∙ only q ∙ eq-eqb q q refl in
          omega (arith, s.nearest l.way (route_chain (alone t) tables.rows 0 l.way (omega arith) l.goes) meets, l.size, s.size)

      pub way_out_some : (e e' : List ℕ) (base : ℕ) (r : Option ℕ) → Shown b.letters (alone t) e e' (OnePath b.lasts) q base r → IsSome r
      way_out_some e e' base r = route_some tables b.lasts e e' base r useful.way_out low useful.goes_out useful.ends

      back_same : (c d : ℕ) → both_in m c d ≡ back_to q c d
      back_same c d = ap₂ ◌&&◌ (only c ∙ equal_swap q c) (only d ∙ equal_swap q d)

      pub loops_some : (e e' : List ℕ) (base : ℕ) (r : Option ℕ) → Shown b.letters t e e' (Parted m) q base r → IsSome r
      loops_some e e' base None s =
          let same : both_in m ≡ back_to q = λ i c d. back_same c d i in
          absurd (true≢false (sym first.1 ∙ ap (parts_to g q) (sym same) ∙ none_parts tables m q low s.1))
      loops_some e e' base (Some r) s = refl

      -- the three texts
      pub runaway_answer : {e e1 e2 e3 : List ℕ} {x y z : ℕ} → ShownRoute t e e1 m 0 0 x → ShownText b.letters t e1 e2 (Parted m) q x y → ShownRoute t e2 e3 b.lasts q (x + y) z
          → Reported g e e3 (Runaway x y z)
      runaway_answer {e} {e1} {e2} {e3} {x} {y} {z} tx ty tz =
          let i = routed tables zero-le tx in
          let o = routed tables low tz in
          let w = two_walks tables (back_to q) back_same low ty in
          let text : List ℕ → List ℕ = map (letter_at b.letters) in
          let sx : length (text tx.nodes) ≡ x = length-map tx.nodes (letter_at b.letters) ∙ tx.size in
          let sy : length (text ty.nodes) ≡ y = length-map ty.nodes (letter_at b.letters) ∙ ty.size in
          let sz : length (text tz.nodes) ≡ z = length-map tz.nodes (letter_at b.letters) ∙ tz.size in
          let ways : Useful g q = record {
            way_in = tx.nodes;
            goes_in = i.route;
            comes = sym (eqb-true q (end_of 0 tx.nodes) (sym (only (end_of 0 tx.nodes)) ∙ i.meets));
            short_in = i.short;
            way_out = tz.nodes;
            goes_out = o.route;
            ends = o.meets;
            short_out = o.short;
          } in
          let b1 = begins_more [] (text tx.nodes) e e e1 0 x refl sx refl tx.text in
          let b2 = begins_more (text tx.nodes) (text ty.nodes) e e1 e2 x y sx sy b1 ty.text in
          let b3 = begins_more (text tx.nodes ++ text ty.nodes) (text tz.nodes) e e2 e3 (x + y) z (length-append (text tx.nodes) (text ty.nodes) ∙ ap₂ ◌+◌ sx sy) sz b2 tz.text in
          record {
            verdict_is = sym (if_yes 2 (if ambiguous g then 1 else 0) (not (eqb (first_pivot g) 0)) (ap not (ne_eqb (first_pivot g) 0 (λ n. omega (arith, pivot)))));
            shows = record {
              x = text tx.nodes;
              y = text ty.nodes;
              z = text tz.nodes;
              shows = shows_same i.text w.text o.text (at_pivot ways (parting_loops g q w.walks) (way_in_nearest tx));
              first = sym sx;
              second = sym sy;
              third = sym sz;
              written = subst (λ (p : List ℕ). Begins p e e3) (append_assoc (text tx.nodes) (text ty.nodes) (text tz.nodes)) b3;
            };
          }
