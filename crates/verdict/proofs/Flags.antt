-- Pairs with a flag: have the two paths parted so far, at different positions or by different links. A chain's sides differ just
-- where it ends flagged; and before it parts a pair is one position twice, so that there are p * p + p flagged pairs, and a chain
-- with none twice is that short. Assumes nothing.
use mathlib.Core.Path.{◌≡◌, refl, sym, ap, ap₂, ◌∙◌, subst}
use mathlib.Core.Logic.{◌⊎◌, inl, inr}
use mathlib.Core.Bool.{Bool, true, false, ◌&&◌, ◌||◌, not, false≢true}
use mathlib.Core.List.{List, [], ◌∷◌, map, head-eq_of_cons-eq, tail-eq_of_cons-eq}
use Prim.Native.Nat.{ℕ, ◌+◌, ◌-◌, ◌≤◌, ◌<◌}
use native.Mathlib.Omega.{arith}
use lib.Dec.{eqb}
use borrow.Author.Tests.{eqb-true, eqb-false, eq-eqb, ne_eqb, not-true, not-false}
use Rattle.std.specs.Prelude.{if◌then◌else◌}
use Rattle.basics.specs.Lists.{end_of, Chain}
use Rattle.basics.proofs.Tests.{and_parts, and_of, or_left, or_right, or_parts, by_test, by_equal, if_yes, if_either}
use Rattle.basics.proofs.Lists.{map_end}
use Rattle.alphabet.specs.Alphabet.{is_letter}
use Rattle.graph.specs.Graph.{Graph, is_position, doubled}
use Rattle.graph.specs.Readings.{Transition, transition, path}
use Rattle.graph.proofs.Links.{some_of, several_of, of_several, several_some}
use Rattle.graph.proofs.Walks.{plain, Takes, Goes}
use Rattle.verdict.specs.Pairs.{Pair, pair, shares}
use Rattle.verdict.specs.Evidence.{longest}
use Rattle.verdict.proofs.Chains.{chain_end, chain_map, Way, way_end, way_step, way_join, Short, short}
use Rattle.verdict.proofs.Pairs.{lefts, rights, pair_same, Placed, Beside, besides, place_low, place_told, pair_number, pair_low, pair_told}

-- two different numbers below n
two_below : (a b n : ℕ) → (a ≡ b → ⊥) → a < n → b < n → 2 ≤ n
two_below a b n d l m = omega arith

-- a pair, and whether the two paths have parted
pub record Node : Type 0 where
  pub at : Pair
  pub parted : Bool

abbrev pub node : Pair → Bool → Node
node t f = record { at = t; parted = f }

abbrev pub pairs : List Node → List Pair
pairs c = map (λ n. n.at) c

-- both at state u, before any step
abbrev pub start : ℕ → Node
start u = node (pair u u) false

module _ (g : Graph) where
  -- one letter on: they part at different positions or by links, of which there are two then
  pub record Moves (n m : Node) : Type 0 where
    pub step : Beside g n.at m.at
    pub links : Bool
    pub flag : m.parted ≡ (n.parted || (not (eqb m.at.left m.at.right) || links))
    pub two : links ≡ true → doubled g n.at.left m.at.left ≡ true

  -- ---- flags along a chain

  stays : (n m : Node) → Moves n m → n.parted ≡ true → m.parted ≡ true
  stays n m s e = s.flag ∙ or_left n.parted (not (eqb m.at.left m.at.right) || s.links) e

  off_flagged : (n m : Node) → Moves n m → (m.at.left ≡ m.at.right → ⊥) → m.parted ≡ true
  off_flagged n m s d =
      let off = not (eqb m.at.left m.at.right) in
      s.flag ∙ or_right n.parted (off || s.links) (or_left off s.links (ap not (ne_eqb m.at.left m.at.right d)))

  pub same_at : (n m : Node) → Moves n m → m.parted ≡ false → m.at.left ≡ m.at.right
  same_at n m s e =
      let b = eqb m.at.left m.at.right in
      eqb-true m.at.left m.at.right (not-false b (or_parts (not b) s.links (or_parts n.parted (not b || s.links) (sym s.flag ∙ e)).1).0)

  -- where they part at one position, it is by links
  parted_by_links : (n m : Node) (s : Moves n m) → n.parted ≡ false → m.parted ≡ true → m.at.left ≡ m.at.right → doubled g n.at.left m.at.left ≡ true
  parted_by_links n m s e f q = s.two (sym (ap₂ (λ (x y : Bool). x || (not y || s.links)) e (eq-eqb m.at.left m.at.right q)) ∙ sym s.flag ∙ f)

  -- before it is flagged, a pair is one state twice
  abbrev pub Same : Node → Type 0
  Same n = n.parted ≡ false → n.at.left ≡ n.at.right

  -- ---- the two sides of a chain: the left one by first links, the right one by a second link where they part at one position

  abbrev second : Node → Node → Bool
  second n m = (not n.parted && m.parted) && eqb m.at.left m.at.right

  abbrev pub left_side : List Node → List Transition
  left_side c = plain (lefts (pairs c))

  abbrev pub right_side : Node → List Node → List Transition
  right_side n [] = []
  right_side n (m ∷ c) = transition m.at.right (if second n m then 1 else 0) ∷ right_side m c

  pub right_path : (n : Node) (c : List Node) → path (right_side n c) ≡ rights (pairs c)
  right_path n [] = refl
  right_path n (m ∷ c) = ap (λ (l : List ℕ). m.at.right ∷ l) (right_path m c)

  pub right_takes : (n : Node) (c : List Node) → Same n → Chain Moves n c → Takes g n.at.right (right_side n c)
  right_takes n [] met h = tt
  right_takes n (m ∷ c) met h = (
    if_either (λ (k : ℕ). k < g.links n.at.right m.at.right) 1 0 (second n m)
        (λ e.
        let x = and_parts (not n.parted && m.parted) (eqb m.at.left m.at.right) e in
        let y = and_parts (not n.parted) m.parted x.0 in
        let off = not-true n.parted y.0 in
        let q = eqb-true m.at.left m.at.right x.1 in
        subst (λ (i : ℕ). 1 < g.links n.at.right i) q
        (subst (λ (u : ℕ). 1 < g.links u m.at.left) (met off) (several_of (g.links n.at.left m.at.left) (parted_by_links n m h.0 off y.1 q))))
        (λ e. some_of (g.links n.at.right m.at.right) h.0.step.right_next),
    right_takes m c (same_at n m h.0) h.1,
  )

  -- flagged at the end: the sides differ
  pub different : (n : Node) (c : List Node) → Chain Moves n c → n.parted ≡ false → (end_of n c).parted ≡ true → left_side c ≡ right_side n c → ⊥
  different n [] h e f q = false≢true (sym e ∙ f)
  different n (m ∷ c) h e f q =
      let head = head-eq_of_cons-eq q in
      let at : m.at.left ≡ m.at.right = ap (λ (t : Transition). t.position) head in
      let link : ◌≡◌ {A = ℕ} 0 (if second n m then 1 else 0) = ap (λ (t : Transition). t.link) head in
      let rest = different m c h.1 in
      by_test m.parted
      (λ t.
      let yes : second n m ≡ true = and_of (not n.parted && m.parted) (eqb m.at.left m.at.right) (and_of (not n.parted) m.parted (ap not e) t) (eq-eqb m.at.left m.at.right at) in
      let one = if_yes {A = ℕ} 1 0 (second n m) yes in
      absurd (omega arith))
      (λ t. rest t f (tail-eq_of_cons-eq q))

  pub pairs_go : (n : Node) (c : List Node) → Chain Moves n c → Chain (Beside g) n.at (pairs c)
  pairs_go = chain_map Moves (Beside g) (λ n. n.at) (λ n m s. s.step)

  -- ---- a chain of pairs, flagged: they part by positions alone

  record Flagged (n : Node) (c : List Pair) : Type 0 where
    nodes : List Node
    goes : Chain Moves n nodes
    are : pairs nodes ≡ c

  flagged : (n : Node) (c : List Pair) → Chain (Beside g) n.at c → Flagged n c
  flagged n [] h = record { nodes = []; goes = tt; are = refl }
  flagged n (t ∷ c) h =
      let m = node t (n.parted || (not (eqb t.left t.right) || false)) in
      let r = flagged m c h.1 in
      record { nodes = m ∷ r.nodes; goes = (record { step = h.0; links = false; flag = refl; two = λ e. absurd (false≢true e) }, r.goes); are = ap (λ (l : List Pair). t ∷ l) r.are }

  flagged_way : (n : Node) (z : Pair) → Way (Beside g) n.at z → (f : Bool) × Way Moves n (node z f)
  flagged_way n z w =
      let m = flagged n w.nodes w.goes in
      let e : (end_of n m.nodes).at ≡ z = sym (map_end (λ (k : Node). k.at) n m.nodes) ∙ ap (end_of n.at) m.are ∙ w.ends in
      ((end_of n m.nodes).parted, record { nodes = m.nodes; goes = m.goes; ends = λ i. record { at = e i; parted = (end_of n m.nodes).parted } })

  -- once flagged, flagged to the end
  flagged_on : (t z : Pair) → Way (Beside g) t z → Way Moves (node t true) (node z true)
  flagged_on t z w =
      let y = flagged_way (node t true) z w in
      let f : y.0 ≡ true = way_end Moves (λ (n : Node). n.parted ≡ true) stays (node t true) (node z y.0) y.1 refl in
      subst (λ (b : Bool). Way Moves (node t true) (node z b)) f y.1

  -- a way through a pair of different positions
  pub way_off : (u : ℕ) (t z : Pair) → (t.left ≡ t.right → ⊥) → Way (Beside g) (pair u u) t → Way (Beside g) t z → Way Moves (start u) (node z true)
  way_off u t z off v w =
      let x = flagged_way (start u) t v in
      let e : x.0 ≡ true = way_end Moves (λ (n : Node). (n.at.left ≡ n.at.right → ⊥) → n.parted ≡ true) (λ n m s k. off_flagged n m s) (start u) (node t x.0) x.1 (λ d. absurd (d refl)) off in
      way_join Moves (start u) (node t true) (node z true) (subst (λ (b : Bool). Way Moves (start u) (node t b)) e x.1) (flagged_on t z w)

  -- a way over two links, from v to a
  pub way_linked : (u v a : ℕ) (z : Pair) → is_position g a ≡ true → doubled g v a ≡ true → shares g a a ≡ true → Way (Beside g) (pair u u) (pair v v) → Way (Beside g) (pair a a) z
      → Way Moves (start u) (node z true)
  way_linked u v a z i d s w y =
      let x = flagged_way (start u) (pair v v) w in
      let n = node (pair v v) x.0 in
      let next = several_some (g.links v a) d in
      let over : Moves n (node (pair a a) true) = record {
        step = record { placed = (i, i); left_next = next; right_next = next; share = s };
        links = true;
        flag = sym (or_right x.0 (not (eqb a a) || true) (or_right (not (eqb a a)) true refl));
        two = λ e. d;
      } in
      way_join Moves (start u) n (node z true) x.1 (way_join Moves n (node (pair a a) true) (node z true) (way_step Moves n (node (pair a a) true) over) (flagged_on (pair a a) z y))

  -- ---- where they part

  -- the first step on the way to z at which they do: to different positions, or by links from one state to one position
  pub record Off (t z : Pair) : Type 0 where
    pub from : Pair
    pub at : Pair
    pub before : Way (Beside g) t from
    pub step : Beside g from at
    pub after : Way (Beside g) at z
    pub parts : (at.left ≡ at.right → ⊥) ⊎ ((at.left ≡ at.right) × (from.left ≡ from.right) × (doubled g from.left at.left ≡ true))

  pub off_on : (n : Node) (c : List Node) → Same n → Chain Moves n c → n.parted ≡ false → (end_of n c).parted ≡ true → Off n.at (end_of n c).at
  off_on n [] met h e f = absurd (false≢true (sym e ∙ f))
  off_on n (m ∷ c) met h e f =
      let rest = off_on m c (same_at n m h.0) h.1 in
      by_test m.parted
      (λ t. record {
        from = n.at;
        at = m.at;
        before = record { nodes = []; goes = tt; ends = refl };
        step = h.0.step;
        after = record { nodes = pairs c; goes = pairs_go m c h.1; ends = map_end (λ (k : Node). k.at) m c };
        parts = by_equal m.at.left m.at.right (λ q. inr (q, met e, parted_by_links n m h.0 e t q)) (λ d. inl d);
      })
      (λ t.
      let o = rest t f in
      record {
        from = o.from;
        at = o.at;
        before = way_join (Beside g) n.at m.at o.from (way_step (Beside g) n.at m.at h.0.step) o.before;
        step = o.step;
        after = o.after;
        parts = o.parts;
      })

  -- ---- two walks over one text are a flagged chain, and where it does not end flagged they are one

  pub record Together (n : Node) (r v : List Transition) : Type 0 where
    pub nodes : List Node
    pub goes : Chain Moves n nodes
    pub left : lefts (pairs nodes) ≡ path r
    pub right : rights (pairs nodes) ≡ path v
    pub same : (end_of n nodes).parted ≡ false → r ≡ v

  module _ (letters : (i c : ℕ) → g.holds i c ≡ true → is_letter c ≡ true) where
    pub together : (n : Node) → Same n → (s : List ℕ) (r v : List Transition) → Goes g n.at.left s r → Goes g n.at.right s v → Together n r v
    together n met [] [] [] h k = record { nodes = []; goes = tt; left = refl; right = refl; same = λ e. refl }
    together n met [] [] (y ∷ v) h k = absurd k.0
    together n met [] (x ∷ r) v h k = absurd h.0
    together n met (c ∷ s) [] v h k = absurd h.0
    together n met (c ∷ s) (x ∷ r) [] h k = absurd k.0
    together n met (c ∷ s) (x ∷ r) (y ∷ v) h k =
        let i = x.position in
        let j = y.position in
        let b = (not n.parted && eqb i j) && not (eqb x.link y.link) in
        let m = node (pair i j) (n.parted || (not (eqb i j) || b)) in
        let over : Moves n m = record { step = besides g letters n.at c i j h.0.0 k.0.0; links = b; flag = refl; two = chosen n met x y h.1.0 k.1.0 } in
        let rest = together m (same_at n m over) s r v (h.0.1, h.1.1) (k.0.1, k.1.1) in
        record {
          nodes = m ∷ rest.nodes;
          goes = (over, rest.goes);
          left = ap (λ (l : List ℕ). i ∷ l) rest.left;
          right = ap (λ (l : List ℕ). j ∷ l) rest.right;
          same = λ e. ap₂ ◌∷◌ (not_parted n x y (by_test m.parted (λ t. absurd (false≢true (sym e ∙ chain_end Moves (λ (w : Node). w.parted ≡ true) stays m rest.nodes rest.goes t))) (λ t. t))) (rest.same e);
        }
      where
        -- links that differ are two
        chosen : (n : Node) → Same n → (x y : Transition) → x.link < g.links n.at.left x.position → y.link < g.links n.at.right y.position
            → ((not n.parted && eqb x.position y.position) && not (eqb x.link y.link)) ≡ true → doubled g n.at.left x.position ≡ true
        chosen n met x y l k e =
            let p = and_parts (not n.parted && eqb x.position y.position) (not (eqb x.link y.link)) e in
            let q = and_parts (not n.parted) (eqb x.position y.position) p.0 in
            let d = eqb-false x.link y.link (not-true (eqb x.link y.link) p.1) in
            let m : y.link < g.links n.at.left x.position =
            subst (λ (u : ℕ). y.link < g.links u x.position) (sym (met (not-true n.parted q.0)))
            (subst (λ (i : ℕ). y.link < g.links n.at.right i) (sym (eqb-true x.position y.position q.1)) k) in
            of_several (g.links n.at.left x.position) (two_below x.link y.link (g.links n.at.left x.position) d l m)

        not_parted : (n : Node) (x y : Transition)
            → (n.parted || (not (eqb x.position y.position) || ((not n.parted && eqb x.position y.position) && not (eqb x.link y.link)))) ≡ false → x ≡ y
        not_parted n x y e =
            let same = eqb x.position y.position in
            let b = (not n.parted && same) && not (eqb x.link y.link) in
            let p = or_parts n.parted (not same || b) e in
            let q = or_parts (not same) b p.1 in
            let at = not-false same q.0 in
            let links = not-false (eqb x.link y.link) (sym (ap₂ (λ (s t : Bool). (not s && t) && not (eqb x.link y.link)) p.0 at) ∙ q.1) in
            let i = eqb-true x.position y.position at in
            let l = eqb-true x.link y.link links in
            λ k. record { position = i k; link = l k }

  -- ---- flagged pairs told apart by numbers below p * p + p

  abbrev pub number_of : Bool → Pair → ℕ
  number_of false t = t.left - 1
  number_of true t = g.positions + pair_number g t

  abbrev pub Met : Bool → Pair → Type 0
  Met f t = Placed g t × (f ≡ false → t.left ≡ t.right)

  pub node_low : (f : Bool) (t : Pair) → Met f t → number_of f t < longest g
  node_low false t h = let l = place_low g t.left h.0.0 in omega arith
  node_low true t h = let l = pair_low g t h.0 in omega arith

  pub node_told : (f e : Bool) (t u : Pair) → Met f t → Met e u → number_of f t ≡ number_of e u → node t f ≡ node u e
  node_told false false t u h k q =
      let l = place_told g t.left u.left h.0.0 k.0.0 q in
      ap (λ (x : Pair). node x false) (pair_same t u l (sym (h.1 refl) ∙ l ∙ k.1 refl))
  node_told false true t u h k q = absurd (let l = place_low g t.left h.0.0 in omega arith)
  node_told true false t u h k q = absurd (let l = place_low g u.left k.0.0 in omega arith)
  node_told true true t u h k q = ap (λ (x : Pair). node x true) (pair_told g t u h.0 k.0 (omega arith))

  pub short_way : (n m : Node) → Way Moves n m → Short Moves (longest g) n m
  short_way = short Moves (λ n. number_of n.parted n.at) (λ n. Met n.parted n.at) (longest g) (λ n. node_low n.parted n.at) (λ n m. node_told n.parted m.parted n.at m.at)
      (λ n m s. (s.step.placed, same_at n m s))
