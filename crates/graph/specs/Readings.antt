-- The readings of an answer, their number, and the mark.
-- Each is one function of a state: at 0, before any letter, it is the reading, the count or the mark of the whole answer.
use Rattle.std.specs.Prelude.{Bool, false, ◌&&◌, List, [], ◌∷◌, map, ℕ, suc, ◌*◌, min, max, ltb, ℤ, pos, negsuc, ◌+ℤ◌, if◌then◌else◌}
use Rattle.basics.specs.Folds.{fold_if, sum_if}
use Rattle.graph.specs.Graph.{Graph, step}

-- [Readings] one letter of a reading: the position, and which of the links that lead there was taken, counted from 0. To a first
-- position one link leads, so that nothing is chosen there.
pub record Transition : Type 0 where
  pub position : ℕ
  pub link : ℕ

abbrev pub transition : ℕ → ℕ → Transition
transition i k = record { position = i; link = k }

-- the positions of a reading, without the links
abbrev pub path : List Transition → List ℕ
path r = map (λ t. t.position) r

-- [Readings] from a state on: for each letter a position, which may come next where the reading is and whose set holds the letter,
-- and one of the links that lead there; it ends where a reading may end. So the empty answer has the empty reading, if the pattern
-- can be empty.
abbrev pub reads_from : Graph → ℕ → List ℕ → List Transition → Bool
reads_from g u [] [] = g.last u
reads_from g u [] (t ∷ r) = false
reads_from g u (b ∷ s) [] = false
reads_from g u (b ∷ s) (t ∷ r) = (step g u b t.position && ltb t.link (g.links u t.position)) && reads_from g t.position s r

abbrev pub is_reading : Graph → List ℕ → List Transition → Bool
is_reading g s r = reads_from g 0 s r

-- [Marks] a reading earns the sum of its positions' credits, which may be below zero
abbrev pub credit_of : Graph → List Transition → ℤ
credit_of g [] = pos 0
credit_of g (t ∷ r) = g.credit t.position +ℤ credit_of g r

-- [Counts] the number of readings, not yet cut at 2^63: the sum, over the positions that may come next, of the numbers from there,
-- each as many times as links lead there
abbrev pub count_from : Graph → ℕ → List ℕ → ℕ
count_from g u [] = if g.last u then 1 else 0
count_from g u (b ∷ s) = sum_if (step g u b) (λ i. g.links u i * count_from g i s) (suc g.positions)

abbrev pub readings : Graph → List ℕ → ℕ
readings g s = count_from g 0 s

-- [Marks] the most that some readings earn, where there are any
pub data Best : Type 0 where
  no_reading : Best
  earns : ℤ → Best

-- the greater of two numbers (`negsuc n` is -(n + 1))
abbrev pub greater : ℤ → ℤ → ℤ
greater (pos a) (pos b) = pos (max a b)
greater (pos a) (negsuc b) = pos a
greater (negsuc a) (pos b) = pos b
greater (negsuc a) (negsuc b) = negsuc (min a b)

-- the best of some readings and of others
abbrev pub better : Best → Best → Best
better no_reading y = y
better (earns x) no_reading = earns x
better (earns x) (earns y) = earns (greater x y)

-- the best of them with a credit more
abbrev pub added : ℤ → Best → Best
added c no_reading = no_reading
added c (earns m) = earns (c +ℤ m)

abbrev pub best_from : Graph → ℕ → List ℕ → Best
best_from g u [] = if g.last u then earns (pos 0) else no_reading
best_from g u (b ∷ s) = fold_if no_reading better (step g u b) (λ i. added (g.credit i) (best_from g i s)) (suc g.positions)

-- [Marks] the most that a reading earns, 0 where there is none
abbrev pub mark_of : Best → ℤ
mark_of no_reading = pos 0
mark_of (earns m) = m

abbrev pub mark : Graph → List ℕ → ℤ
mark g s = mark_of (best_from g 0 s)
