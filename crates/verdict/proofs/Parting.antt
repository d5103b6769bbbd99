-- `parts_to g u goal` holds just where two different walks from u over one text come to a pair that passes the test, and then
-- two over at most p * p + p letters do. Ambiguity is the case of state 0 and two ends, a pivot that of a position and itself.
-- Assumes nothing.
use mathlib.Core.Path.{◌≡◌, refl, sym, ap, ap₂, ◌∙◌, subst}
use mathlib.Core.Logic.{◌⊎◌, inl, inr, ⊎_elim}
use mathlib.Core.Bool.{Bool, true, false, ◌&&◌, not, false≢true}
use mathlib.Core.List.{List, [], ◌∷◌, map}
use Prim.Native.Nat.{ℕ, suc, ◌≤◌}
use native.Mathlib.Omega.{arith}
use lib.Dec.{eqb}
use lib.ListN.{length, length-map}
use borrow.Author.Tests.{eqb-true, eqb-false, eq-eqb, ne_eqb, not-true}
use Rattle.basics.specs.Folds.{any_if}
use Rattle.basics.specs.Lists.{end_of, Chain}
use Rattle.basics.proofs.Tests.{and_parts, and_of, or_left, or_right, or_cases, by_test}
use Rattle.basics.proofs.Lists.{map_end}
use Rattle.basics.proofs.Folds.{any_found, any_true}
use Rattle.alphabet.specs.Alphabet.{all_letters}
use Rattle.graph.specs.Graph.{Graph, is_position, doubled}
use Rattle.graph.specs.Readings.{Transition, path}
use Rattle.graph.proofs.Walks.{position_of, Walk, walk_length, path_plain, Goes, walk_plain}
use Rattle.graph.specs.Trim.{Trim}
use Rattle.verdict.specs.Pairs.{Pair, pair, shares, some_pair}
use Rattle.verdict.specs.Evidence.{shown, longest}
use Rattle.verdict.specs.Verdict.{reaches, two_links, by_links, parted_at, parts_to}
use Rattle.verdict.proofs.Chains.{chain_end, Way, way_end, way_step, way_join, Short}
use Rattle.verdict.proofs.Pairs.{lefts, rights, pair_same, Placed, Beside, left_walk, right_walk, walk_letters}
use Rattle.verdict.proofs.Reached.{pair_found, some_pair_is, reaches_way, way_reaches}
use Rattle.verdict.proofs.Flags.{Node, node, start, pairs, Moves, pairs_go, left_side, right_side, right_path, right_takes, different, way_off, way_linked, Off, off_on, together, short_way}

-- ---- by chains of flagged pairs

module _ (g : Graph) (u : ℕ) (goal : ℕ → ℕ → Bool) where
  abbrev leads : ℕ → ℕ → ℕ → ℕ → Bool
  leads a b c d = reaches g (pair a b) c d && goal c d

  abbrev parts : ℕ → ℕ → Bool
  parts a b = parted_at g u a b && some_pair g (leads a b)

  abbrev linked : ℕ → ℕ → Bool
  linked a v = reaches g (pair u u) v v && two_links g v a

  -- two paths from u that part, and come to a pair that passes
  pub record PartedPaths : Type 0 where
    pub to : Pair
    pub passes : goal to.left to.right ≡ true
    pub way : Way (Moves g) (start u) (node to true)

  -- on from a state v to which both come, by two links to a
  linked_way : (v a : ℕ) (z : Pair) → is_position g a ≡ true → two_links g v a ≡ true → Way (Beside g) (pair u u) (pair v v) → Way (Beside g) (pair a a) z → Way (Moves g) (start u) (node z true)
  linked_way v a z i t w y = let x = and_parts (doubled g v a) (shares g a a) t in way_linked g u v a z i x.0 x.1 w y

  parted_way : (a z : Pair) → Placed g a → parted_at g u a.left a.right ≡ true → Way (Beside g) a z → Way (Moves g) (start u) (node z true)
  parted_way a z p h w =
      let off = not (eqb a.left a.right) in
      let to = reaches g (pair u u) a.left a.right in
      let by = by_links g u a.left in
      ⊎_elim
      (λ e.
      let q = and_parts off to e in
      way_off g u a z (eqb-false a.left a.right (not-true (eqb a.left a.right) q.0)) (reaches_way g (pair u u) a p q.1) w)
      (λ e.
      let q = and_parts (eqb a.left a.right) by e in
      let same = eqb-true a.left a.right q.0 in
      let on : Way (Beside g) (pair a.left a.left) z = subst (λ (t : Pair). Way (Beside g) t z) (pair_same a (pair a.left a.left) refl (sym same)) w in
      ⊎_elim (λ t. linked_way u a.left z p.0 t (record { nodes = []; goes = tt; ends = refl }) on)
      (λ t.
      let v = any_found (is_position g) (linked a.left) (suc g.positions) t in
      let x = and_parts (reaches g (pair u u) v.i v.i) (two_links g v.i a.left) v.holds in
      linked_way v.i a.left z p.0 x.1 (reaches_way g (pair u u) (pair v.i v.i) (v.member, v.member) x.0) on)
      (or_cases (two_links g u a.left) (any_if (is_position g) (linked a.left) (suc g.positions)) q.1))
      (or_cases (off && to) (eqb a.left a.right && by) h)

  pub parts_paths : parts_to g u goal ≡ true → PartedPaths
  parts_paths h =
      let x = pair_found g parts h in
      let a = x.at in
      let p = and_parts (parted_at g u a.left a.right) (some_pair g (leads a.left a.right)) x.holds in
      let y = pair_found g (leads a.left a.right) p.1 in
      let z = y.at in
      let r = and_parts (reaches g a z.left z.right) (goal z.left z.right) y.holds in
      record { to = z; passes = r.1; way = parted_way a z x.placed p.0 (reaches_way g a z y.placed r.0) }

  -- both are where they began, or at positions
  placed_end : (t : Pair) (c : List Pair) → Chain (Beside g) t c → (end_of t c ≡ t) ⊎ Placed g (end_of t c)
  placed_end t [] h = inl refl
  placed_end t (x ∷ c) h = inr (chain_end (Beside g) (Placed g) (λ x y b q. b.placed) x c h.1 h.0.placed)

  way_linked_by : (v : Pair) (a : ℕ) → Way (Beside g) (pair u u) v → v.left ≡ v.right → two_links g v.left a ≡ true → by_links g u a ≡ true
  way_linked_by v a w q t =
      let any = any_if (is_position g) (linked a) (suc g.positions) in
      ⊎_elim
      (λ e.
      let here : v.left ≡ u = ap (λ (x : Pair). x.left) (sym w.ends ∙ e) in
      or_left (two_links g u a) any (subst (λ (x : ℕ). two_links g x a ≡ true) here t))
      (λ p.
      let i = (subst (λ (x : Pair). Placed g x) w.ends p).0 in
      let l = position_of g v.left i in
      let r : reaches g (pair u u) v.left v.left ≡ true = subst (λ (x : ℕ). reaches g (pair u u) v.left x ≡ true) (sym q) (way_reaches g (pair u u) v w) in
      or_right (two_links g u a) any
      (any_true (is_position g) (linked a) (suc g.positions) v.left (omega arith) i (and_of (reaches g (pair u u) v.left v.left) (two_links g v.left a) r t)))
      (placed_end (pair u u) w.nodes w.goes)

  off_parted : (z : Pair) (o : Off g (pair u u) z) → parted_at g u o.at.left o.at.right ≡ true
  off_parted z o =
      let a = o.at in
      let off = not (eqb a.left a.right) in
      let to = reaches g (pair u u) a.left a.right in
      let by = by_links g u a.left in
      let one = way_join (Beside g) (pair u u) o.from a o.before (way_step (Beside g) o.from a o.step) in
      ⊎_elim
      (λ d. or_left (off && to) (eqb a.left a.right && by) (and_of off to (ap not (ne_eqb a.left a.right d)) (way_reaches g (pair u u) a one)))
      (λ s.
      let share : shares g a.left a.left ≡ true = subst (λ (x : ℕ). shares g a.left x ≡ true) (sym s.0) o.step.share in
      or_right (off && to) (eqb a.left a.right && by)
      (and_of (eqb a.left a.right) by (eq-eqb a.left a.right s.0)
      (way_linked_by o.from a.left o.before s.1 (and_of (doubled g o.from.left a.left) (shares g a.left a.left) s.2 share))))
      o.parts

  pub paths_parts : PartedPaths → parts_to g u goal ≡ true
  paths_parts k =
      let z = k.to in
      let w = k.way in
      let o = subst (λ (n : Node). Off g (pair u u) n.at) w.ends (off_on g (start u) w.nodes (λ e. refl) w.goes refl (ap (λ (n : Node). n.parted) w.ends)) in
      let a = o.at in
      some_pair_is g parts a o.step.placed
      (and_of (parted_at g u a.left a.right) (some_pair g (leads a.left a.right)) (off_parted z o)
      (some_pair_is g (leads a.left a.right) z (way_end (Beside g) (Placed g) (λ x y b q. b.placed) a z o.after o.step.placed)
      (and_of (reaches g a z.left z.right) (goal z.left z.right) (way_reaches g a z o.after) k.passes)))

-- ---- by walks

-- the text shown for the two sides of a chain has a letter for each step
pub shown_steps : (g : Graph) (c : List Node) → length (shown g (lefts (pairs c)) (rights (pairs c))) ≡ length c
shown_steps g [] = refl
shown_steps g (n ∷ c) = ap suc (shown_steps g c)

-- where a side of a flagged chain leads
pub side_end : (side : Pair → ℕ) (n : Node) (c : List Node) → end_of (side n.at) (map side (pairs c)) ≡ side (end_of n c).at
side_end side n c = map_end side n.at (pairs c) ∙ ap side (map_end (λ (k : Node). k.at) n c)

-- a flagged chain that comes to be flagged has a step
pub some_step : (u : ℕ) (z : Pair) (c : List Node) → end_of (start u) c ≡ node z true → 1 ≤ length c
some_step u z [] e = absurd (false≢true (ap (λ (n : Node). n.parted) e))
some_step u z (n ∷ c) e = omega arith

-- two different walks from u over the text shown for them
pub record Parting (g : Graph) (u : ℕ) (goal : ℕ → ℕ → Bool) : Type 0 where
  pub text : List ℕ
  pub one : List Transition
  pub other : List Transition
  pub letters_shown : text ≡ shown g (path one) (path other)
  pub goes_one : Goes g u text one
  pub goes_other : Goes g u text other
  pub differ : one ≡ other → ⊥
  pub passes : goal (end_of u (path one)) (end_of u (path other)) ≡ true
  pub letters : all_letters text ≡ true
  pub some : 1 ≤ length text
  pub few : length text ≤ longest g

module _ (g : Graph) (trim : Trim g) (u : ℕ) (goal : ℕ → ℕ → Bool) where
  -- a short chain of flagged pairs shows such walks: its two sides
  abbrev pub short_parting : (z : Pair) → goal z.left z.right ≡ true → Short (Moves g) (longest g) (start u) (node z true) → Parting g u goal
  short_parting z passes s =
      let c = pairs s.nodes in
      let k = pairs_go g (start u) s.nodes s.goes in
      let text = shown g (lefts c) (rights c) in
      let left = left_walk g (pair u u) c k in
      let right_is = right_path g (start u) s.nodes in
      let some = some_step u z s.nodes s.ends in
      let size = shown_steps g s.nodes in
      let few = s.few in
      let to : (side : Pair → ℕ) → end_of (side (pair u u)) (map side c) ≡ side z = λ side. side_end side (start u) s.nodes ∙ ap (λ (n : Node). side n.at) s.ends in
      record {
        text = text;
        one = left_side g s.nodes;
        other = right_side g (start u) s.nodes;
        letters_shown = ap₂ (shown g) (sym (path_plain (lefts c))) (sym right_is);
        goes_one = walk_plain g u text (lefts c) left;
        goes_other = (subst (λ (l : List ℕ). Walk g u text l) (sym right_is) (right_walk g (pair u u) c k), right_takes g (start u) s.nodes (λ e. refl) s.goes);
        differ = different g (start u) s.nodes s.goes refl (ap (λ (n : Node). n.parted) s.ends);
        passes = ap₂ goal (ap (end_of u) (path_plain (lefts c)) ∙ to (λ t. t.left)) (ap (end_of u) right_is ∙ to (λ t. t.right)) ∙ passes;
        letters = walk_letters g trim.letters u text (lefts c) left;
        some = omega arith;
        few = omega arith;
      }

  pub parting : parts_to g u goal ≡ true → Parting g u goal
  parting h = let x = parts_paths g u goal h in short_parting x.to x.passes (short_way g (start u) (node x.to true) x.way)

  -- two paths from u that part, and come in n steps to a pair that passes
  pub record PartedIn (n : ℕ) : Type 0 where
    pub paths : PartedPaths g u goal
    pub size : length paths.way.nodes ≡ n

  -- two walks over one text to such a pair are paths of that kind, as long as the text, or they are one
  pub walks_meet : (s : List ℕ) (c d : List Transition) → Goes g u s c → Goes g u s d → goal (end_of u (path c)) (end_of u (path d)) ≡ true → PartedIn (length s) ⊎ (c ≡ d)
  walks_meet s c d v w k =
      let m = together g trim.letters (start u) (λ e. refl) s c d v w in
      by_test (end_of (start u) m.nodes).parted
      (λ f.
      let z = (end_of (start u) m.nodes).at in
      let there = ap₂ goal (sym (side_end (λ x. x.left) (start u) m.nodes) ∙ ap (end_of u) m.left) (sym (side_end (λ x. x.right) (start u) m.nodes) ∙ ap (end_of u) m.right) in
      let l1 = length-map m.nodes (λ (n : Node). n.at) in
      let l2 = length-map (pairs m.nodes) (λ (t : Pair). t.left) in
      let l3 = ap length m.left in
      let l4 = walk_length g u s (path c) v.0 in
      inl (record {
        paths = record { to = z; passes = there ∙ k; way = record { nodes = m.nodes; goes = m.goes; ends = λ i. record { at = z; parted = f i } } };
        size = omega arith;
      }))
      (λ f. inr (m.same f))

  -- where the test fails they are one
  pub walks_same : parts_to g u goal ≡ false → (s : List ℕ) (c d : List Transition) → Goes g u s c → Goes g u s d → goal (end_of u (path c)) (end_of u (path d)) ≡ true → c ≡ d
  walks_same e s c d v w k = ⊎_elim (λ m. absurd (false≢true (sym e ∙ paths_parts g u goal m.paths))) (λ q. q) (walks_meet s c d v w k)

  pub walks_part : (s : List ℕ) (c d : List Transition) → Goes g u s c → Goes g u s d → goal (end_of u (path c)) (end_of u (path d)) ≡ true → (c ≡ d → ⊥) → parts_to g u goal ≡ true
  walks_part s c d v w k differ = by_test (parts_to g u goal) (λ e. e) (λ e. absurd (differ (walks_same e s c d v w k)))
