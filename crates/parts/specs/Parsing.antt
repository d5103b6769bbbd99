-- What parsing a pattern, a branch or a piece gives, and the whole pattern.
use Rattle.std.specs.Prelude.{◌≡◌, true, false, ◌&&◌, List, ℕ, zero, suc, ◌+◌, ◌*◌, ◌<◌, ◌≤◌, min, eqb, ltb, length, drop, Option, if◌then◌else◌}
use Rattle.std.specs.Borrow.{Bor}
use Prim.Native.Char.{code}
use Rattle.letters.specs.declared.LetterSet.{LetterSet}
use Rattle.pattern.specs.Grammar.{Read, read, broken, peek, pattern_from, read_pattern, pattern_part}
use Rattle.pattern.specs.Refusals.{any_reversed, any_empty}
use Rattle.links.specs.Rows.{kept, Marks, Links, number, after, NoneCounted}
use Rattle.places.specs.Reads.{Reads}
use Rattle.parsed.specs.declared.Parsed.{Parsed}
use Rattle.set_table.specs.declared.Tables.{Tables}
use Rattle.parsed.specs.Tables.{Stored}
use Rattle.parsed.specs.Parsed.{Shape, shape_of, Memory, Stands}
use Rattle.parts.specs.declared.ParsedRows.{ParsedRows}

-- the result stands for what the function F of the grammar reads at the front of a text, at every depth above the measure by which the
-- code ends: three for each byte, and the rank
abbrev pub Parses : (ℕ → List ℕ → Read) → ℕ → List ℕ → ℕ → Memory → Memory → Option (Parsed × Bor (List ℕ)) → Type 0
Parses F rank text n m m' r = (f : ℕ) → 3 * length text + rank < f → Stands text n m m' (F f text) r

-- ---- a pattern in `( )`

-- what is made of it with its last byte
abbrev pub closed_read : Read → Read
closed_read a = if a.good && eqb (peek a.rest) (code ")") then read a.part (drop 1 a.rest) else broken

-- from the byte after its `(` on
abbrev pub closed_from : ℕ → List ℕ → Read
closed_from zero text = broken
closed_from (suc f) text = closed_read (pattern_from f text)

-- ---- the whole pattern

-- the result, the rows and the tables have the shape that a text begins with, of up to 60 positions
pub record Kept (x : Shape) (rows more : List ℕ) (sets : List LetterSet) (credits : List ℕ) (r : Parsed) : Type 0 where
  pub count : r.n ≡ length x.atoms
  pub empty : r.empty ≡ x.empty
  pub firsts : Marks r.firsts (x.first 0)
  pub lasts : Marks r.lasts (x.last 0)
  pub links : Links rows (λ a b. ltb 0 (x.links 0 a b))
  pub numbers : (a b : ℕ) → kept a ≡ true → kept b ≡ true → number rows more a b ≡ after (x.links 0 a b) 0
  pub none : r.doubled ≡ false → NoneCounted more
  pub stored : Stored x.atoms sets credits

-- the result has that shape. More than 60 positions are not kept, and count as 61
pub record Whole (x : Shape) (rows more : List ℕ) (sets : List LetterSet) (credits : List ℕ) (r : Parsed) : Type 0 where
  pub count : r.n ≡ min (length x.atoms) 61
  pub reversed : r.reversed ≡ any_reversed x.atoms
  pub hollow : r.hollow ≡ any_empty x.atoms
  pub misbounded : r.misbounded ≡ x.misbounded
  pub keeps : length x.atoms ≤ 60 → Kept x rows more sets credits r

-- p and the text after it stand for what the rules read of a text, with no position to its left and nothing in the memory before
pub record IsPattern (text rows more : List ℕ) (tables : Tables) (p : Parsed) (rest : List ℕ) : Type 0 where
  pub good : (read_pattern text).good ≡ true
  pub goes : (read_pattern text).rest ≡ rest
  pub has : Whole (shape_of (pattern_part text)) rows more tables.sets tables.credits p

abbrev pub ParsesAll : List ℕ → List ℕ → Tables → ParsedRows → Type 0
ParsesAll text more tables r = Reads r.read ((read_pattern text).good ≡ false) (IsPattern text r.rows more tables)
