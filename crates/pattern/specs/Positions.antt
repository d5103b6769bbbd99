-- Positions, and for each part whether it can be empty, its firsts, its lasts, and the links: the graph of a pattern.
use Rattle.std.specs.Prelude.{Bool, false, ◌&&◌, ◌||◌, List, [], ◌∷◌, ◌++◌, ℕ, zero, suc, ◌+◌, eqb, length, get_or, if◌then◌else◌}
use Rattle.graph.specs.Graph.{some, Graph}
use Rattle.pattern.specs.Parts.{Atom, holds, skips, loops, Part, letter, either, joined, again}
use Rattle.pattern.specs.Grammar.{no_atom, pattern_part}

-- [Positions] the lettered atoms from the left, the first of them position 1
abbrev pub atoms : Part → List Atom
atoms (letter a) = a ∷ []
atoms (either p q) = atoms p ++ atoms q
atoms (joined p q) = atoms p ++ atoms q
atoms (again k p) = atoms p

abbrev pub positions : Part → ℕ
positions p = length (atoms p)

abbrev pub atom_at : Part → ℕ → Atom
atom_at p zero = no_atom
atom_at p (suc i) = get_or (atoms p) i no_atom

-- [Empty parts] no lettered atom; branches if one can be; A then B if both can; with `?` and `*` always, with `+` as the atom
abbrev pub can_be_empty : Part → Bool
can_be_empty (letter a) = false
can_be_empty (either p q) = can_be_empty p || can_be_empty q
can_be_empty (joined p q) = can_be_empty p && can_be_empty q
can_be_empty (again k p) = skips k || can_be_empty p

-- Below, n positions stand to the left of the part, so that its own are n + 1 to n + positions.

-- [Firsts] is x one: of a lettered atom itself; of branches those of all; of a joining those of A, and of B where A can be empty;
-- of a repeat those of its atom
abbrev pub is_first : ℕ → Part → ℕ → Bool
is_first n (letter a) x = eqb x (suc n)
is_first n (either p q) x = is_first n p x || is_first (n + positions p) q x
is_first n (joined p q) x = is_first n p x || (can_be_empty p && is_first (n + positions p) q x)
is_first n (again k p) x = is_first n p x

-- [Lasts] is x one: the same, but of a joining those of B, and of A where B can be empty
abbrev pub is_last : ℕ → Part → ℕ → Bool
is_last n (letter a) x = eqb x (suc n)
is_last n (either p q) x = is_last n p x || is_last (n + positions p) q x
is_last n (joined p q) x = is_last (n + positions p) q x || (can_be_empty q && is_last n p x)
is_last n (again k p) x = is_last n p x

-- [Links] how many lead from x to y: in a joining one from a last of A to a first of B; with `*` and `+` one from a last of the atom
-- to a first of it; and those within A and B, within the branches, within the atom
abbrev pub links : ℕ → Part → ℕ → ℕ → ℕ
links n (letter a) x y = 0
links n (either p q) x y = links n p x y + links (n + positions p) q x y
links n (joined p q) x y = links n p x y + (links (n + positions p) q x y + (if is_last n p x && is_first (n + positions p) q y then 1 else 0))
links n (again k p) x y = links n p x y + (if loops k && (is_last n p x && is_first n p y) then 1 else 0)

-- [Follows] may y come after x: does a link lead there
abbrev pub follows : ℕ → Part → ℕ → ℕ → Bool
follows n p x y = some (links n p x y)

-- ---- [States] 0 before any letter, or a position

-- how many links lead to a position, from 0 one to each first; and where a reading may end
abbrev pub links_of : Part → ℕ → ℕ → ℕ
links_of p zero y = if is_first 0 p y then 1 else 0
links_of p (suc x) y = links 0 p (suc x) y

abbrev pub last_of : Part → ℕ → Bool
last_of p zero = can_be_empty p
last_of p (suc x) = is_last 0 p (suc x)

abbrev pub graph_of : Part → Graph
graph_of p = record {
  positions = positions p;
  links = links_of p;
  last = last_of p;
  holds = λ i b. holds (atom_at p i) b;
  credit = λ i. (atom_at p i).credit;
}

abbrev pub pattern_graph : List ℕ → Graph
pattern_graph s = graph_of (pattern_part s)
