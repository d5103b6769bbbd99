-- What a search that is over says of the graph: a search for parted pairs finds one just where `parts_to` holds, and the chain of
-- nodes that leads to it is two different walks; a search of one path finds a route. Assumes nothing.
use mathlib.Core.Path.{◌≡◌, refl, sym, ap, ap₂, ◌∙◌, subst}
use mathlib.Core.Bool.{Bool, true, false, ◌&&◌, true≢false, false≢true, and_comm}
use mathlib.Core.List.{List, [], ◌∷◌, map}
use Prim.Native.Nat.{ℕ, ◌≤◌, ◌<◌}
use native.Mathlib.Nat.{le_refl}
use native.Mathlib.Omega.{arith}
use lib.ListN.{get_or, replicate}
use Rattle.basics.specs.Lists.{Each, Apart, end_of, Chain}
use Rattle.basics.proofs.Tests.{and_parts, by_test}
use Rattle.basics.proofs.Lists.{zeros, map_end, pigeon}
use Rattle.bits.specs.Bits.{has_bit}
use Rattle.bits.proofs.Laws.{has_none}
use Rattle.graph.specs.Graph.{Graph, is_position, next}
use Rattle.graph.specs.Trim.{Route}
use Rattle.graph.proofs.Walks.{position_of}
use Rattle.verdict.specs.Pairs.{Pair, letter_shown}
use Rattle.verdict.specs.Verdict.{parts_to}
use Rattle.verdict.specs.Evidence.{shown, longest}
use Rattle.verdict.proofs.Chains.{Way, Short, chain_end, chain_each}
use Rattle.verdict.proofs.Pairs.{lefts, rights}
use Rattle.verdict.proofs.Flags.{Node, node, start, pairs, Moves, Met, number_of, node_low, node_told, same_at}
use Rattle.verdict.proofs.Parting.{PartedPaths, parts_paths, paths_parts}
use Rattle.search.specs.declared.Goal.{Goal}
use Rattle.search.specs.declared.Goal.TheVariants.{Parted}
use Rattle.search.specs.declared.Search.{Search}
use Rattle.shares.specs.Tables.{Rows, Tables}
use Rattle.nodes.specs.declared.Steps.{Steps}
use Rattle.nodes.specs.Nodes.{left_of, right_of, Step, single, beside}
use Rattle.nodes.specs.Taken.{taken}
use Rattle.search.specs.Search.{queue, is_goal, SoundQueue, Searching, Reached, Missed}
use Rattle.nodes.proofs.Nodes.{sides, left_low, right_low, left_high, right_high}
use Rattle.search.proofs.Visiting.{goal_low, goal_high, complete, way_back}
use Rattle.search.proofs.Moves.{letter_swap, code_of, code, Held, moved_held, positions, lift_chain, drop_chain}
use Rattle.std.proofs.lemmas.Grind.{common_steps}

-- ---- goals

goal_sides : (m x : ℕ) → 64 ≤ x → is_goal (Parted m) x ≡ (has_bit m (left_of x) && has_bit m (right_of x))
goal_sides m x h = goal_high (Parted m) x h ∙ sym (ap₂ (λ a b. has_bit m a && has_bit m b) (left_high x h) (right_high x h))

-- the letter shown of a node
abbrev pub letter_of : Graph → ℕ → ℕ
letter_of g x = letter_shown g (left_of x) (right_of x)

abbrev pub both_in : ℕ → ℕ → ℕ → Bool
both_in m c d = has_bit m c && has_bit m d

-- ---- a search that is over

pub found_way : {steps : Steps} {s : List ℕ} {goal : Goal} {u i : ℕ} → Reached steps s goal u i → Way (Step steps) u (queue s i)
found_way {steps} {s} {i = i} r =
    subst (λ (x : ℕ). Way (Step steps) x (queue s i)) r.first
    (way_back r.sound i i (le_refl i) (omega (arith, r.last)) (queue s i) (record { nodes = []; goes = tt; ends = refl }))

-- no node is a goal, and no chain leads to one
pub none_found : {steps : Steps} {s : List ℕ} {goal : Goal} {u : ℕ} {w : Search} → Searching steps s goal u w → w.head ≡ w.tail → Missed steps s goal u
none_found {steps} {s} {goal} {u} {w} h over = record {
  tail = w.tail;
  is_taken = taken w.seen;
  sound = done;
  first = h.first;
  none = h.none;
  unmet = λ c k.
      let q = complete done c 0 done.begun (subst (λ (x : ℕ). Chain (Step steps) x c) (sym h.first) k) in
      ap (λ (x : ℕ). is_goal goal (end_of x c)) (sym h.first) ∙ ap (is_goal goal) (sym q.is) ∙ h.none q.at q.low;
}
  where
    done : SoundQueue (Step steps) (taken w.seen) s w.tail w.tail
    done = subst (λ (n : ℕ). SoundQueue (Step steps) (taken w.seen) s n w.tail) over h.sound.queue

-- ---- two paths

module _ {g : Graph} {steps : Steps} (tables : Tables g steps) where
  goal_code : (m : ℕ) (f : Bool) (t : Pair) → Held g f t → is_goal (Parted m) (code_of f t) ≡ (f && both_in m t.left t.right)
  goal_code m false t h = goal_low (Parted m) t.left (omega (arith, h.1))
  goal_code m true t h = grind (arith, common_steps, sides, positions, goal_sides, and_comm)

  held_end : (u : ℕ) (c : List Node) → u ≤ g.positions → Chain (Moves g) (start u) c → Held g (end_of (start u) c).parted (end_of (start u) c).at
  held_end u c l h = chain_end (Moves g) (λ n. Held g n.parted n.at) (λ n m s k. moved_held g n m s) (start u) c h (refl, l)

  -- a chain of nodes to a goal is a chain of moves to a parted pair that passes
  pub record PartedWay (m u : ℕ) (ys : List ℕ) : Type 0 where
    pub nodes : List Node
    pub goes : Chain (Moves g) (start u) nodes
    pub are : map code nodes ≡ ys
    pub to : Pair
    pub ends : end_of (start u) nodes ≡ node to true
    pub passes : both_in m to.left to.right ≡ true

  pub parted : (m u : ℕ) → u ≤ g.positions → (ys : List ℕ) → Chain (Step steps) u ys → is_goal (Parted m) (end_of u ys) ≡ true → PartedWay m u ys
  parted m u l ys h k =
      let c = lift_chain tables (start u) ys (refl, l) h in
      let z = end_of (start u) c.nodes in
      let end : code z ≡ end_of u ys = sym (map_end code (start u) c.nodes) ∙ ap (end_of u) c.are in
      let both = and_parts z.parted (both_in m z.at.left z.at.right)
      (sym (goal_code m z.parted z.at (held_end u c.nodes l c.goes)) ∙ ap (is_goal (Parted m)) end ∙ k) in
      record { nodes = c.nodes; goes = c.goes; are = c.are; to = z.at; ends = λ i. record { at = z.at; parted = both.0 i }; passes = both.1 }

  -- what such chains say of `parts_to`
  pub some_parts : (m u : ℕ) → u ≤ g.positions → (ys : List ℕ) → Chain (Step steps) u ys → is_goal (Parted m) (end_of u ys) ≡ true → parts_to g u (both_in m) ≡ true
  some_parts m u l ys h k =
      let w = parted m u l ys h k in
      paths_parts g u (both_in m) (record { to = w.to; passes = w.passes; way = record { nodes = w.nodes; goes = w.goes; ends = w.ends } })

  -- and two paths that part are such a chain
  pub parted_chain : (m u : ℕ) → u ≤ g.positions → (k : PartedPaths g u (both_in m)) → Chain (Step steps) u (map code k.way.nodes) × (is_goal (Parted m) (end_of u (map code k.way.nodes)) ≡ true)
  parted_chain m u l k =
      let c = k.way.nodes in
      let end : end_of u (map code c) ≡ code (node k.to true) = map_end code (start u) c ∙ ap code k.way.ends in
      let held = subst (λ (n : Node). Held g n.parted n.at) k.way.ends (held_end u c l k.way.goes) in
      (drop_chain tables (start u) c (refl, l) k.way.goes, ap (is_goal (Parted m)) end ∙ goal_code m true k.to held ∙ k.passes)

  pub none_parts : (m u : ℕ) → u ≤ g.positions → ((ys : List ℕ) → Chain (Step steps) u ys → is_goal (Parted m) (end_of u ys) ≡ false) → parts_to g u (both_in m) ≡ false
  none_parts m u l none =
      by_test (parts_to g u (both_in m))
      (λ h.
      let k = parts_paths g u (both_in m) h in
      let c = parted_chain m u l k in
      absurd (true≢false (sym c.1 ∙ none (map code k.way.nodes) c.0)))
      (λ h. h)

  pub reached_parts : {s : List ℕ} {m u i : ℕ} → Reached steps s (Parted m) u i → u ≤ g.positions → parts_to g u (both_in m) ≡ true
  reached_parts {m = m} {u = u} r l = let v = found_way r in some_parts m u l v.nodes v.goes (ap (is_goal (Parted m)) v.ends ∙ r.meets)

  -- ---- the text

  letter_code : (f : Bool) (t : Pair) → Held g f t → letter_of g (code_of f t) ≡ letter_shown g t.left t.right
  letter_code false t h = grind (arith, common_steps, left_low, right_low)
  letter_code true t h = grind (arith, common_steps, letter_swap, sides, positions)

  pub shown_codes : (n : Node) (c : List Node) → Chain (Moves g) n c → map (letter_of g) (map code c) ≡ shown g (lefts (pairs c)) (rights (pairs c))
  shown_codes n [] h = refl
  shown_codes n (m ∷ c) h = ap₂ ◌∷◌ (letter_code m.parted m.at (moved_held g n m h.0)) (shown_codes m c h.1)

  -- a chain with no node twice is short
  pub apart_nodes : (c : List Node) → Apart (map code c) → Apart c
  apart_nodes [] h = tt
  apart_nodes (n ∷ c) h = (rest c h.0, apart_nodes c h.1)
    where
      rest : (ms : List Node) → Each (λ (y : ℕ). code n ≡ y → ⊥) (map code ms) → Each (λ (m : Node). n ≡ m → ⊥) ms
      rest [] k = tt
      rest (m ∷ ms) k = (λ e. k.0 (ap code e), rest ms k.1)

  abbrev pub short_nodes : (m u : ℕ) (ys : List ℕ) → Apart ys → (w : PartedWay m u ys) → Short (Moves g) (longest g) (start u) (node w.to true)
  short_nodes m u ys a w = record {
    nodes = w.nodes;
    goes = w.goes;
    ends = w.ends;
    few = pigeon (λ (n : Node). number_of g n.parted n.at) (λ (n : Node). Met g n.parted n.at) (longest g) (λ n. node_low g n.parted n.at)
        (λ n k. node_told g n.parted k.parted n.at k.at) w.nodes (apart_nodes w.nodes (subst Apart (sym w.are) a))
        (chain_each (Moves g) (λ n. Met g n.parted n.at) (λ n k s. (s.step.placed, same_at g n k s)) (start u) w.nodes w.goes);
  }

-- ---- one path

module _ {g : Graph} (steps : Steps) (rows : Rows g steps.follow) where
  -- with no letters shared there are no pairs
  pub chain_route : steps.shares ≡ replicate 61 0 → (u : ℕ) (ys : List ℕ) → Chain (Step steps) u ys → Route g u ys
  chain_route none u [] h = tt
  chain_route none u (y ∷ ys) h = let p = one_path u y h.0 in (p.0, p.1, chain_route none y ys h.1)
    where
      one_path : (u y : ℕ) → Step steps u y → (is_position g y ≡ true) × (next g u y ≡ true)
      one_path u y (single {a} l k) = rows.comes u a k
      one_path u y (beside {a} {b} p) =
          absurd (false≢true (sym (ap (λ (r : List ℕ). has_bit (get_or r a 0) b) none ∙ ap (λ (x : ℕ). has_bit x b) (zeros 61 a) ∙ has_none b) ∙ p.share))

  pub route_chain : (u : ℕ) (ys : List ℕ) → u < 64 → Route g u ys → Chain (Step steps) u ys
  route_chain u [] l h = tt
  route_chain u (y ∷ ys) l h =
      let p = position_of g y h.0 in
      (single l (rows.goes_on u y h.0 h.1), route_chain y ys (omega arith) h.2)
