-- [Paths side by side] Two paths over one text: pairs of states (the product of the graph with itself).
use Rattle.std.specs.Prelude.{Bool, ◌&&◌, ◌||◌, ℕ, zero, suc, eqb}
use Rattle.basics.specs.Folds.{any_if}
use Rattle.alphabet.specs.Alphabet.{some_letter}
use Rattle.letters.specs.Order.{first_letter}
use Rattle.graph.specs.Graph.{Graph, is_position, next}

pub record Pair : Type 0 where
  pub left : ℕ
  pub right : ℕ

abbrev pub pair : ℕ → ℕ → Pair
pair a b = record { left = a; right = b }

-- the letters that the sets of two positions both hold; is there one; [Letters shown] the first of them in the order
abbrev pub both_hold : Graph → ℕ → ℕ → ℕ → Bool
both_hold g a b c = g.holds a c && g.holds b c

abbrev pub shares : Graph → ℕ → ℕ → Bool
shares g a b = some_letter (both_hold g a b)

abbrev pub letter_shown : Graph → ℕ → ℕ → ℕ
letter_shown g a b = first_letter (both_hold g a b)

-- does a test hold of some pair of positions
abbrev pub some_pair : Graph → (ℕ → ℕ → Bool) → Bool
some_pair g f = any_if (is_position g) (λ a. any_if (is_position g) (f a) (suc g.positions)) (suc g.positions)

-- one letter on, both paths can move from t to the positions a and b
abbrev pub beside : Graph → Pair → ℕ → ℕ → Bool
beside g t a b = next g t.left a && (next g t.right b && shares g a b)

-- k letters on or fewer, they can be at c and d: one letter on from t, or from a pair of positions reached before
abbrev pub reached : Graph → ℕ → Pair → ℕ → ℕ → Bool
reached g zero t c d = eqb t.left c && eqb t.right d
reached g (suc k) t c d = reached g k t c d || (beside g t c d || some_pair g (λ a b. reached g k t a b && beside g (pair a b) c d))
