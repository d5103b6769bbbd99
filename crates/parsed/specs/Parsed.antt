-- What is kept of a part that was parsed: its firsts and lasts, and what it adds to the rows and the tables; and what the functions here
-- make of it.
use Rattle.std.specs.Prelude.{◌≡◌, Bool, true, false, ◌&&◌, ◌||◌, List, ◌++◌, ℕ, ◌+◌, ◌<◌, ◌≤◌, min, ltb, length, Option}
use Rattle.std.specs.Borrow.{Bor}
use Rattle.bits.specs.Bits.{has_bit}
use Rattle.pattern.specs.Parts.{Atom, Repeat, optional, star, plus, Part, again}
use Rattle.pattern.specs.Grammar.{Read}
use Rattle.pattern.specs.Positions.{atoms, can_be_empty, is_first, is_last, links}
use Rattle.pattern.specs.Refusals.{any_reversed, any_empty, any_misbounded}
use Rattle.set_table.specs.declared.Tables.{Tables}
use Rattle.links.specs.Rows.{Marks, Adds, Linked, Counts, Clear}
use Rattle.places.specs.Reads.{Reads}
use Rattle.parsed.specs.declared.Parsed.{Parsed}
use Rattle.parsed.specs.declared.Repeat.{Repeat as Repeating}
use Rattle.parsed.specs.declared.Repeat.TheVariants.{Optional, Star, Plus}
use Rattle.parsed.specs.Tables.{Stored}

-- ---- a part, parsed

-- what parsing keeps of a part: its atoms, whether it can be empty, with n positions to its left its firsts, its lasts and its links,
-- and whether refusal 11 names an interval of it
pub record Shape : Type 0 where
  pub atoms : List Atom
  pub empty : Bool
  pub first : ℕ → ℕ → Bool
  pub last : ℕ → ℕ → Bool
  pub links : ℕ → ℕ → ℕ → ℕ
  pub misbounded : Bool

abbrev pub shape_of : Part → Shape
shape_of p = record { atoms = atoms p; empty = can_be_empty p; first = λ n x. is_first n p x; last = λ n x. is_last n p x; links = λ n x y. links n p x y; misbounded = any_misbounded p }

-- the rows, the links beyond the first, and the tables, at some time
pub record Memory : Type 0 where
  pub rows : List ℕ
  pub more : List ℕ
  pub tables : Tables

abbrev pub memory : List ℕ → List ℕ → Tables → Memory
memory rows more tables = record { rows = rows; more = more; tables = tables }

-- the result r and the memory after it have what follows what in the shape x, with n positions to its left: m is the memory before
-- it, and m' that with its own links added. Where r is not doubled, none is counted beyond the first
pub record Keeps (n : ℕ) (m m' : Memory) (x : Shape) (r : Parsed) : Type 0 where
  pub empty : r.empty ≡ x.empty
  pub firsts : Marks r.firsts (x.first n)
  pub lasts : Marks r.lasts (x.last n)
  pub adds : Adds m.rows (λ a b. ltb 0 (x.links n a b)) m'.rows
  pub counts : Counts m.rows m.more (x.links n) m'.rows m'.more
  pub none : r.doubled ≡ false → m'.more ≡ m.more

-- the result r has the shape x, with n positions to its left, and links are added where none led from a position past n before. More
-- than 60 positions are not kept, and count as 61
pub record Has (n : ℕ) (m m' : Memory) (x : Shape) (r : Parsed) : Type 0 where
  pub count : r.n ≡ min (n + length x.atoms) 61
  pub reversed : r.reversed ≡ any_reversed x.atoms
  pub hollow : r.hollow ≡ any_empty x.atoms
  pub misbounded : r.misbounded ≡ x.misbounded
  pub keeps : n + length x.atoms ≤ 60 → Clear n m.rows m.more → Keeps n m m' x r
  pub stores : n + length x.atoms ≤ 60 → (al : List Atom) → length al ≡ n → Stored al m.tables.sets m.tables.credits → Stored (al ++ x.atoms) m'.tables.sets m'.tables.credits

-- r and `rest`, the text after it, stand for what the rules read at the front of a text, R: r has its shape, and something was read
pub record Gives (text : List ℕ) (n : ℕ) (m m' : Memory) (R : Read) (r : Parsed) (rest : List ℕ) : Type 0 where
  pub good : R.good ≡ true
  pub goes : R.rest ≡ rest
  pub on : length rest < length text
  pub has : Has n m m' (shape_of R.part) r

-- the result stands for it, or the grammar does not hold there
abbrev pub Stands : List ℕ → ℕ → Memory → Memory → Read → Option (Parsed × Bor (List ℕ)) → Type 0
Stands text n m m' R r = Reads r (R.good ≡ false) (Gives text n m m' R)

-- ---- what the functions promise

-- before the first part: nothing is read, which can be empty for a joining and cannot for branches
abbrev pub nothing_read : ℕ → Bool → Parsed
nothing_read n empty = record { n = n; empty = empty; firsts = 0; lasts = 0; reversed = false; hollow = false; misbounded = false; doubled = false }

-- the repeat of the rules that it is
abbrev pub rule_of : Repeating → Repeat
rule_of Optional = optional
rule_of Star = star
rule_of Plus = plus

-- whatever part p has the shape of, r has that of its repeat
abbrev pub Repeats : Repeat → List ℕ → List ℕ → List ℕ → List ℕ → Parsed → Parsed → Type 0
Repeats k rows more rows' more' p r = (n : ℕ) (m : Memory) (tables : Tables) (q : Part) → Has n m (memory rows more tables) (shape_of q) p → Has n m (memory rows' more' tables) (shape_of (again k q)) r

-- a lettered atom is read: the rows and the links stay, whatever they are
abbrev pub Letters : List ℕ → ℕ → Tables → Tables → Read → Option (Parsed × Bor (List ℕ)) → Type 0
Letters text n tables tables' R r = (rows more : List ℕ) → Stands text n (memory rows more tables) (memory rows more tables') R r

-- r is a, and b after it: it has as many positions as there are up to b's end, and a fact of an atom is one of both
pub record Follows (a b r : Parsed) : Type 0 where
  pub count : r.n ≡ b.n
  pub reversed : r.reversed ≡ (a.reversed || b.reversed)
  pub hollow : r.hollow ≡ (a.hollow || b.hollow)
  pub misbounded : r.misbounded ≡ (a.misbounded || b.misbounded)

-- r is a or b
pub record Either (a b r : Parsed) : Type 0 where
  pub follows : Follows a b r
  pub empty : r.empty ≡ (a.empty || b.empty)
  pub firsts : (j : ℕ) → has_bit r.firsts j ≡ (has_bit a.firsts j || has_bit b.firsts j)
  pub lasts : (j : ℕ) → has_bit r.lasts j ≡ (has_bit a.lasts j || has_bit b.lasts j)
  pub doubled : r.doubled ≡ (a.doubled || b.doubled)

-- r is a, then b: the firsts of b may follow the lasts of a
pub record Joins (rows rows' : List ℕ) (a b r : Parsed) : Type 0 where
  pub follows : Follows a b r
  pub empty : r.empty ≡ (a.empty && b.empty)
  pub firsts : (j : ℕ) → has_bit r.firsts j ≡ (has_bit a.firsts j || (a.empty && has_bit b.firsts j))
  pub lasts : (j : ℕ) → has_bit r.lasts j ≡ (has_bit b.lasts j || (b.empty && has_bit a.lasts j))
  pub links : Linked rows a.lasts b.firsts rows'
  pub doubled : r.doubled ≡ (a.doubled || b.doubled)
