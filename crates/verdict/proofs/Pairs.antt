-- A step of two walks over one text, side by side, is one of pairs, and a chain of pairs is two walks over the text shown for it:
-- at each step the letter shown of both sets. Assumes nothing.
use mathlib.Core.Path.{◌≡◌, refl, sym, ap, ◌∙◌}
use mathlib.Core.Bool.{true}
use mathlib.Core.List.{List, [], ◌∷◌, map}
use Prim.Native.Nat.{ℕ, ◌-◌, ◌+◌, ◌*◌, ◌/◌, ◌%◌, ◌<◌}
use native.Mathlib.Omega.{arith}
use lib.Arith.{digits_lt, digits_div, digits_mod}
use Rattle.basics.specs.Lists.{Chain}
use Rattle.basics.proofs.Tests.{and_parts, and_of}
use Rattle.alphabet.specs.Alphabet.{is_letter, all_letters}
use Rattle.alphabet.proofs.Alphabet.{letter_some}
use Rattle.letters.proofs.Order.{first_letter_serves}
use Rattle.graph.specs.Graph.{Graph, is_position, next, step}
use Rattle.graph.proofs.Walks.{Walk, position_of, step_parts, step_of}
use Rattle.verdict.specs.Pairs.{Pair, pair, both_hold, shares, letter_shown}
use Rattle.verdict.specs.Evidence.{shown}

-- two digits below n are told apart by their number
digits_same : (n a b c d : ℕ) → b < n → d < n → a * n + b ≡ c * n + d → (a ≡ c) × (b ≡ d)
digits_same n a b c d l m e = (sym (digits_div a l) ∙ ap (λ (z : ℕ). z / n) e ∙ digits_div c m, sym (digits_mod a l) ∙ ap (λ (z : ℕ). z % n) e ∙ digits_mod c m)

abbrev pub lefts : List Pair → List ℕ
lefts c = map (λ t. t.left) c

abbrev pub rights : List Pair → List ℕ
rights c = map (λ t. t.right) c

pub pair_same : (t u : Pair) → t.left ≡ u.left → t.right ≡ u.right → t ≡ u
pair_same t u e f = λ i. record { left = e i; right = f i }

module _ (g : Graph) where
  -- both are positions
  abbrev pub Placed : Pair → Type 0
  Placed t = (is_position g t.left ≡ true) × (is_position g t.right ≡ true)

  -- one letter on, both paths can move from t to u
  pub record Beside (t u : Pair) : Type 0 where
    pub placed : Placed u
    pub left_next : next g t.left u.left ≡ true
    pub right_next : next g t.right u.right ≡ true
    pub share : shares g u.left u.right ≡ true

  -- ---- positions told apart by numbers below p, pairs of them by numbers below p * p

  abbrev pub pair_number : Pair → ℕ
  pair_number t = (t.left - 1) * g.positions + (t.right - 1)

  pub place_low : (i : ℕ) → is_position g i ≡ true → i - 1 < g.positions
  place_low i h = let p = position_of g i h in omega arith

  pub place_told : (i j : ℕ) → is_position g i ≡ true → is_position g j ≡ true → i - 1 ≡ j - 1 → i ≡ j
  place_told i j h k e = let p = position_of g i h in let q = position_of g j k in omega arith

  pub pair_low : (t : Pair) → Placed t → pair_number t < g.positions * g.positions
  pair_low t h = digits_lt (place_low t.left h.0) (place_low t.right h.1)

  pub pair_told : (t u : Pair) → Placed t → Placed u → pair_number t ≡ pair_number u → t ≡ u
  pair_told t u h k e =
      let d = digits_same g.positions (t.left - 1) (t.right - 1) (u.left - 1) (u.right - 1) (place_low t.right h.1) (place_low u.right k.1) e in
      pair_same t u (place_told t.left u.left h.0 k.0 d.0) (place_told t.right u.right h.1 k.1 d.1)

  -- ---- a chain is two walks; what one side does, the other does

  module _ (side : Pair → ℕ) (moves : (t u : Pair) → Beside t u → step g (side t) (letter_shown g u.left u.right) (side u) ≡ true) where
    side_walk : (t : Pair) (c : List Pair) → Chain Beside t c → Walk g (side t) (shown g (lefts c) (rights c)) (map side c)
    side_walk t [] h = tt
    side_walk t (u ∷ c) h = (moves t u h.0, side_walk u c h.1)

  shown_held : (t u : Pair) → Beside t u → (g.holds u.left (letter_shown g u.left u.right) ≡ true) × (g.holds u.right (letter_shown g u.left u.right) ≡ true)
  shown_held t u b =
      let c = letter_shown g u.left u.right in
      and_parts (g.holds u.left c) (g.holds u.right c) (first_letter_serves (both_hold g u.left u.right) b.share).1

  pub left_walk : (t : Pair) (c : List Pair) → Chain Beside t c → Walk g t.left (shown g (lefts c) (rights c)) (lefts c)
  left_walk = side_walk (λ t. t.left) (λ t u b. step_of g t.left (letter_shown g u.left u.right) u.left b.placed.0 b.left_next (shown_held t u b).0)

  pub right_walk : (t : Pair) (c : List Pair) → Chain Beside t c → Walk g t.right (shown g (lefts c) (rights c)) (rights c)
  right_walk = side_walk (λ t. t.right) (λ t u b. step_of g t.right (letter_shown g u.left u.right) u.right b.placed.1 b.right_next (shown_held t u b).1)

  -- ---- where sets hold letters only

  module _ (letters : (i c : ℕ) → g.holds i c ≡ true → is_letter c ≡ true) where
    -- two steps by one letter are one of the pair
    pub besides : (t : Pair) (c i j : ℕ) → step g t.left c i ≡ true → step g t.right c j ≡ true → Beside t (pair i j)
    besides t c i j w v =
        let x = step_parts g t.left c i w in
        let y = step_parts g t.right c j v in
        record {
          placed = (x.0, y.0);
          left_next = x.1;
          right_next = y.1;
          share = letter_some (both_hold g i j) c (letters i c x.2) (and_of (g.holds i c) (g.holds j c) x.2 y.2);
        }

    -- a walk's text is of letters
    pub walk_letters : (u : ℕ) (s r : List ℕ) → Walk g u s r → all_letters s ≡ true
    walk_letters u [] [] w = refl
    walk_letters u [] (i ∷ r) w = absurd w
    walk_letters u (c ∷ s) [] w = absurd w
    walk_letters u (c ∷ s) (i ∷ r) w = and_of (is_letter c) (all_letters s) (letters i c (step_parts g u c i w.0).2) (walk_letters i s r w.1)
