-- The way back from a node of the queue, and the text of the nodes on it.
use Rattle.std.specs.Prelude.{◌≡◌, true, false, List, [], ◌∷◌, ◌++◌, map, ℕ, ◌+◌, ◌≤◌, ◌<◌, length, take, drop, Option, None, Some}
use Rattle.basics.specs.Lists.{Apart, end_of, Chain}
use Rattle.alphabet.specs.Alphabet.{some_letter}
use Rattle.letters.specs.Order.{first_letter}
use Rattle.letters.specs.declared.LetterSet.{LetterSet}
use Rattle.nodes.specs.declared.Steps.{Steps}
use Rattle.nodes.specs.Nodes.{left_of, right_of, Step}
use Rattle.shares.specs.Tables.{held}
use Rattle.search.specs.declared.Goal.{Goal}
use Rattle.search.specs.Search.{queue, back_of, is_goal}

-- ---- letters

-- the letter shown of a node, and that there is one
unfoldable pub letter_at : List LetterSet → ℕ → ℕ
letter_at sets x = first_letter (held sets (left_of x) (right_of x))

pub record Showable (sets : List LetterSet) (x : ℕ) : Type 0 where
  pub left : left_of x ≤ 60
  pub right : right_of x ≤ 60
  pub some : some_letter (held sets (left_of x) (right_of x)) ≡ true

-- ---- the way back

-- the first n of the queue each but the first lead back to an earlier one
pub record LeadsBack (s : List ℕ) (n : ℕ) : Type 0 where
  pub few : n ≤ 2048
  pub lower : (i : ℕ) → 0 < i → i < n → back_of s i < i

-- from there on to the i-th, these nodes
pub data WayTo (s : List ℕ) (i : ℕ) : ℕ → List ℕ → Type 0 where
  there : WayTo s i i []
  before : {j : ℕ} {nodes : List ℕ} → 0 < j → WayTo s i j nodes → WayTo s i (back_of s j) (queue s j ∷ nodes)

-- the text of a list of nodes, n letters, is written at base
abbrev pub written : List LetterSet → List ℕ → ℕ → ℕ → List ℕ → List ℕ
written sets e base n nodes = take base e ++ (map (letter_at sets) nodes ++ drop (base + n) e)

pub record Traced (sets : List LetterSet) (s e e' : List ℕ) (i base n : ℕ) : Type 0 where
  pub nodes : List ℕ
  pub way : WayTo s i 0 nodes
  pub size : length nodes ≡ n
  pub text : e' ≡ written sets e base n nodes

-- ---- a search with its text: so many letters written at base, as few as lead to a goal, or nothing written where no goal is found

pub record ShownText (sets : List LetterSet) (t : Steps) (e e' : List ℕ) (goal : Goal) (start base r : ℕ) : Type 0 where
  pub nodes : List ℕ
  pub goes : Chain (Step t) start nodes
  pub apart : Apart nodes
  pub meets : is_goal goal (end_of start nodes) ≡ true
  pub size : length nodes ≡ r
  pub nearest : (ys : List ℕ) → Chain (Step t) start ys → is_goal goal (end_of start ys) ≡ true → r ≤ length ys
  pub few : r ≤ 1890
  pub text : e' ≡ written sets e base r nodes

abbrev pub Shown : List LetterSet → Steps → List ℕ → List ℕ → Goal → ℕ → ℕ → Option ℕ → Type 0
Shown sets t e e' goal start base None = (e' ≡ e) × ((nodes : List ℕ) → Chain (Step t) start nodes → is_goal goal (end_of start nodes) ≡ false)
Shown sets t e e' goal start base (Some r) = ShownText sets t e e' goal start base r
