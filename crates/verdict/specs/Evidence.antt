-- The texts that show a verdict. Which texts they are is free beyond these lines.
use Rattle.std.specs.Prelude.{◌≡◌, true, List, [], ◌∷◌, ◌++◌, ℕ, zero, suc, ◌+◌, ◌*◌, ◌≤◌, length}
use Rattle.basics.specs.Lists.{end_of}
use Rattle.alphabet.specs.Alphabet.{all_letters}
use Rattle.graph.specs.Graph.{Graph}
use Rattle.graph.specs.Readings.{Transition, path, is_reading, readings}
use Rattle.graph.specs.Taken.{possible}
use Rattle.verdict.specs.Pairs.{letter_shown}
use Rattle.verdict.specs.Verdict.{first_pivot}

-- [Letters shown] the text of two paths side by side, position by position; a path alone, as in x and z, is given twice
abbrev pub shown : Graph → List ℕ → List ℕ → List ℕ
shown g [] u = []
shown g (a ∷ r) [] = []
shown g (a ∷ r) (b ∷ u) = letter_shown g a b ∷ shown g r u

-- y written k times
abbrev pub times : ℕ → List ℕ → List ℕ
times zero y = []
times (suc k) y = y ++ times k y

-- [Steady texts] the most letters of one, and of y: p² + p
abbrev pub longest : Graph → ℕ
longest g = g.positions * g.positions + g.positions

-- [Steady texts] a text with two different readings, and none shorter has two
pub record ShowsSteady (g : Graph) (s : List ℕ) : Type 0 where
  pub letters : all_letters s ≡ true
  pub short : length s ≤ longest g
  pub one : List Transition
  pub other : List Transition
  pub reads_one : is_reading g s one ≡ true
  pub reads_other : is_reading g s other ≡ true
  pub differ : one ≡ other → ⊥
  pub letters_shown : s ≡ shown g (path one) (path other)
  pub shortest : (t : List ℕ) → 2 ≤ readings g t → length s ≤ length t

-- [Runaway texts] x, y, z: a way to the first pivot, two different loops there over one text, and a way to an end; and no text shorter
-- than x leads to the first pivot
pub record ShowsRunaway (g : Graph) (x y z : List ℕ) : Type 0 where
  pub letters : all_letters (x ++ (y ++ z)) ≡ true
  pub some_x : 1 ≤ length x
  pub short_x : length x ≤ g.positions
  pub some_y : 1 ≤ length y
  pub short_y : length y ≤ longest g
  pub short_z : length z ≤ g.positions
  pub way_in : List Transition
  pub loop : List Transition
  pub other : List Transition
  pub way_out : List Transition
  pub reads_loop : is_reading g (x ++ (y ++ z)) (way_in ++ (loop ++ way_out)) ≡ true
  pub reads_other : is_reading g (x ++ (y ++ z)) (way_in ++ (other ++ way_out)) ≡ true
  pub differ : loop ≡ other → ⊥
  pub first : end_of 0 (path way_in) ≡ first_pivot g
  pub back : end_of 0 (path loop) ≡ first_pivot g
  pub other_back : end_of 0 (path other) ≡ first_pivot g
  pub shortest_x : (t : List ℕ) → possible g t (first_pivot g) ≡ true → length x ≤ length t
  pub letters_shown_x : x ≡ shown g (path way_in) (path way_in)
  pub letters_shown_y : y ≡ shown g (path loop) (path other)
  pub letters_shown_z : z ≡ shown g (path way_out) (path way_out)
