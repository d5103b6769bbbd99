-- Steps between nodes are moves of two paths, up to which of the two stands left: a chain of steps is the image of a chain of
-- moves, and a chain of moves that of a chain of steps. So a search finds a goal just where `parts_to` says. Assumes nothing.
use mathlib.Core.Path.{◌≡◌, refl, sym, ap, ap₂, ◌∙◌, subst}
use mathlib.Core.Logic.{⊎_elim}
use mathlib.Core.Bool.{Bool, true, false, ◌||◌, not, true≢false, false≢true, or_comm}
use mathlib.Core.List.{List, [], ◌∷◌, map}
use Prim.Native.Nat.{ℕ, ◌≤◌, ◌<◌}
use native.Mathlib.Omega.{arith}
use borrow.Author.Tests.{eq-eqb, lt-leb, le-leb}
use lib.Dec.{eqb, leb}
use lib.ListN.{get_or}
use Rattle.basics.specs.Lists.{Chain}
use Rattle.basics.proofs.Tests.{both_swap, or_left, or_right, or_cases}
use Rattle.alphabet.specs.Alphabet.{some_letter}
use Rattle.letters.specs.Order.{first_letter}
use Rattle.bits.specs.Bits.{has_bit}
use Rattle.graph.specs.Graph.{Graph, is_position, next}
use Rattle.verdict.specs.Pairs.{Pair, pair, shares, letter_shown}
use Rattle.verdict.proofs.Pairs.{Placed, Beside}
use Rattle.verdict.proofs.Flags.{Node, node, Moves}
use Rattle.shares.specs.Tables.{Tables}
use Rattle.nodes.specs.declared.Steps.{Steps}
use Rattle.nodes.specs.Nodes.{pack, left_of, right_of, goes, Step, single, beside}
use Rattle.nodes.proofs.Nodes.{pack_swap, Places, sides, left_low, right_low}
use Rattle.std.proofs.lemmas.Grind.{common_steps}

-- ---- letters of two positions in either order

pub shares_swap : (g : Graph) (a b : ℕ) → shares g a b ≡ shares g b a
shares_swap g a b = both_swap some_letter (g.holds a) (g.holds b)

pub letter_swap : (g : Graph) (a b : ℕ) → letter_shown g a b ≡ letter_shown g b a
letter_swap g a b = both_swap first_letter (g.holds a) (g.holds b)

abbrev pub code_of : Bool → Pair → ℕ
code_of true t = pack t.left t.right
code_of false t = t.left

abbrev pub code : Node → ℕ
code n = code_of n.parted n.at

module _ (g : Graph) where
  -- before they part both paths are at one state, after it at two positions
  abbrev pub Held : Bool → Pair → Type 0
  Held true t = Placed g t
  Held false t = (t.left ≡ t.right) × (t.left ≤ g.positions)

  pub moved_held : (n m : Node) → Moves g n m → Held m.parted m.at
  moved_held n m s = grind (arith, common_steps)

module _ {g : Graph} {steps : Steps} (tables : Tables g steps) where
  pub positions : (a b : ℕ) → is_position g a ≡ true → is_position g b ≡ true → Places a b
  positions a b h k = grind (arith, common_steps)

  record Lifted (n : Node) (y : ℕ) : Type 0 where
    to : Node
    moves : Moves g n to
    is : code to ≡ y

  -- ---- a step is a move

  -- two positions that come next
  besides : (t : Pair) (a b c d : ℕ) → c ≡ t.left → d ≡ t.right → goes steps.follow c a ≡ true → goes steps.follow d b ≡ true → has_bit (get_or steps.shares a 0) b ≡ true → Beside g t (pair a b)
  besides t a b c d e f h k s = grind (arith, common_steps)

  step_move : (f : Bool) (t : Pair) (y : ℕ) → Held g f t → Step steps (code_of f t) y → Lifted (node t f) y
  step_move false t y h (single {a} l k) =
      let p = tables.rows.comes t.left a k in
      record {
        to = node (pair a a) false;
        moves = record {
          step = record { placed = (p.0, p.0); left_next = p.1; right_next = subst (λ (u : ℕ). next g u a ≡ true) h.0 p.1; share = tables.shares.own a p.0 };
          links = false;
          flag = sym (ap (λ (x : Bool). not x || false) (eq-eqb a a refl));
          two = λ e. absurd (false≢true e);
        };
        is = refl;
      }
  step_move false t y h (beside {a} {b} p) =
      let u = t.left in
      let low : u < 64 = omega (arith, h.1) in
      record {
        to = node (pair a b) true;
        moves = record {
          step = besides t a b (left_of u) (right_of u) (left_low u low) (right_low u low ∙ h.0) p.left p.right p.share;
          links = has_bit (get_or steps.doubles u 0) a;
          flag = sym (or_comm (not (eqb a b)) (has_bit (get_or steps.doubles u 0) a) ∙ ap (λ (x : Bool). (x || has_bit (get_or steps.doubles u 0) a) || not (eqb a b)) (sym (lt-leb 64 u low)) ∙ p.apart);
          two = λ e. sym (tables.doubles.several u a h.1 (tables.rows.comes (left_of u) a p.left).0) ∙ e;
        };
        is = refl;
      }
  step_move true t y h (single {a} l k) = absurd (let big = (sides t.left t.right (positions t.left t.right h.0 h.1)).high in omega arith)
  step_move true t y h (beside {a} {b} p) =
      let x = pack t.left t.right in
      ⊎_elim
      (λ e. record {
        to = node (pair a b) true;
        moves = record { step = besides t a b (left_of x) (right_of x) e.0 e.1 p.left p.right p.share; links = false; flag = refl; two = λ e. absurd (false≢true e) };
        is = refl;
      })
      (λ e.
      let l = (tables.rows.comes (left_of x) a p.left).0 in
      let r = (tables.rows.comes (right_of x) b p.right).0 in
      let s = tables.shares.share b a r l ∙ shares_swap g b a ∙ sym (tables.shares.share a b l r) ∙ p.share in
      record {
        to = node (pair b a) true;
        moves = record { step = besides t b a (right_of x) (left_of x) e.1 e.0 p.right p.left s; links = false; flag = refl; two = λ e. absurd (false≢true e) };
        is = pack_swap b a;
      })
      (sides t.left t.right (positions t.left t.right h.0 h.1)).sides

  -- ---- a move is a step

  parts : (x : ℕ) (t r : Pair) → left_of x ≡ t.left → right_of x ≡ t.right → Beside g t r
      → ((leb 64 x || has_bit (get_or steps.doubles x 0) r.left) || not (eqb r.left r.right)) ≡ true → Step steps x (pack r.left r.right)
  parts x t r e f s apart = beside (record {
    left = ap (λ (u : ℕ). goes steps.follow u r.left) e ∙ tables.rows.goes_on t.left r.left s.placed.0 s.left_next;
    right = ap (λ (u : ℕ). goes steps.follow u r.right) f ∙ tables.rows.goes_on t.right r.right s.placed.1 s.right_next;
    share = tables.shares.share r.left r.right s.placed.0 s.placed.1 ∙ s.share;
    apart = apart;
  })

  turn : (t r : Pair) → Beside g t r → Beside g (pair t.right t.left) (pair r.right r.left)
  turn t r s = record { placed = (s.placed.1, s.placed.0); left_next = s.right_next; right_next = s.left_next; share = shares_swap g r.right r.left ∙ s.share }

  move_step : (f e : Bool) (t r : Pair) → Held g f t → Held g e r → Moves g (node t f) (node r e) → Step steps (code_of f t) (code_of e r)
  move_step false false t r h k s = single (omega (arith, h.1)) (tables.rows.goes_on t.left r.left s.step.placed.0 s.step.left_next)
  move_step false true t r h k s = grind (arith, common_steps, parts, left_low, right_low, or_right, or_left, or_cases)
  move_step true false t r h k s = absurd (true≢false (sym s.flag))
  move_step true true t r h k s =
      let x = pack t.left t.right in
      let d = sides t.left t.right (positions t.left t.right h.0 h.1) in
      let apart : (v w : Bool) → ((leb 64 x || v) || w) ≡ true = λ v w. ap (λ (y : Bool). (y || v) || w) (le-leb 64 x d.high) in
      ⊎_elim (λ e. parts x t r e.0 e.1 s.step (apart (has_bit (get_or steps.doubles x 0) r.left) (not (eqb r.left r.right))))
      (λ e. subst (Step steps x) (pack_swap r.right r.left) (parts x (pair t.right t.left) (pair r.right r.left) e.0 e.1 (turn t r s.step) (apart (has_bit (get_or steps.doubles x 0) r.right) (not (eqb r.right r.left)))))
      d.sides

  -- ---- chains

  pub record LiftedChain (n : Node) (ys : List ℕ) : Type 0 where
    pub nodes : List Node
    pub goes : Chain (Moves g) n nodes
    pub are : map code nodes ≡ ys

  pub lift_chain : (n : Node) (ys : List ℕ) → Held g n.parted n.at → Chain (Step steps) (code n) ys → LiftedChain n ys
  lift_chain n [] h c = record { nodes = []; goes = tt; are = refl }
  lift_chain n (y ∷ ys) h c =
      let m = step_move n.parted n.at y h c.0 in
      let r = lift_chain m.to ys (moved_held g n m.to m.moves) (subst (λ (x : ℕ). Chain (Step steps) x ys) (sym m.is) c.1) in
      record { nodes = m.to ∷ r.nodes; goes = (m.moves, r.goes); are = ap₂ ◌∷◌ m.is r.are }

  pub drop_chain : (n : Node) (c : List Node) → Held g n.parted n.at → Chain (Moves g) n c → Chain (Step steps) (code n) (map code c)
  drop_chain n [] h k = tt
  drop_chain n (m ∷ c) h k = let held = moved_held g n m k.0 in (move_step n.parted m.parted n.at m.at h held k.0, drop_chain m c held k.1)
