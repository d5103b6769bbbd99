-- Copies of a part, one after the other: what they have in rows and in the table of links beyond the first.
use Rattle.std.specs.Prelude.{◌≡◌, Bool, true, false, List, ℕ, suc, ◌+◌, ◌-◌, ◌*◌, max, if◌then◌else◌}
use Rattle.pattern.specs.Parts.{Part, Bounds, out_of_bounds, written_out}
use Rattle.pattern.specs.Positions.{positions}
use Rattle.links.specs.Rows.{Clear}
use Rattle.copies.specs.Copies.{Same, Moved, Repeats}
use Rattle.parsed.specs.declared.Parsed.{Parsed}
use Rattle.set_table.specs.declared.Tables.{Tables}
use Rattle.parsed.specs.Parsed.{shape_of, Memory, memory, Keeps}

-- how many copies an interval is written out in
abbrev pub how_many : Bounds → ℕ
how_many b = if b.endless then max b.lower 1 else b.upper

-- one copy more in the rows, w positions further on, after one whose last position is n, and where links are doubled in the table of
-- those beyond the first: there the entry of two positions is 62 * w entries further on, if both are w further on
pub record NextRows (w : ℕ) (doubled : Bool) (n : ℕ) (rows more rows' more' : List ℕ) : Type 0 where
  pub copied : Repeats (Moved w) (n - w + 1) (n + 1) w rows rows'
  pub numbers : doubled ≡ true → Repeats Same (62 * (n - w + 1)) (62 * n + 1) (62 * w) more more'
  pub none : doubled ≡ false → more' ≡ more

-- k copies more, one after the other
pub data Copied (w : ℕ) (doubled : Bool) (n : ℕ) : ℕ → List ℕ → List ℕ → List ℕ → List ℕ → Type 0 where
  none : {rows more : List ℕ} → Copied w doubled n 0 rows more rows more
  after : {k : ℕ} {rows more rows' more' rows'' more'' : List ℕ} → Copied w doubled n k rows more rows' more' → NextRows w doubled (n + k * w) rows' more' rows'' more''
      → Copied w doubled n (suc k) rows more rows'' more''

-- r is the copy of p, w positions further on
pub record NextPart (w : ℕ) (p r : Parsed) : Type 0 where
  pub same : r ≡ record { n = p.n + w; empty = p.empty; firsts = r.firsts; lasts = r.lasts; reversed = p.reversed; hollow = p.hollow; misbounded = p.misbounded; doubled = p.doubled }
  pub firsts : Moved w p.firsts r.firsts
  pub lasts : Moved w p.lasts r.lasts

-- r is p, a part of w positions, written out in copies within bounds: whatever part it is
pub record Chains (w copies : ℕ) (b : Bounds) (rows more rows' more' : List ℕ) (p r : Parsed) : Type 0 where
  pub count : r.n ≡ p.n + (copies - 1) * w
  pub reversed : r.reversed ≡ p.reversed
  pub hollow : r.hollow ≡ p.hollow
  pub misbounded : r.misbounded ≡ p.misbounded
  pub keeps : (n : ℕ) (m : Memory) (tables : Tables) (q : Part) → out_of_bounds b ≡ false → copies ≡ how_many b → positions q ≡ w → p.n ≡ n + w → Clear n m.rows m.more → Keeps n m (memory rows more tables) (shape_of q) p → Keeps n m (memory rows' more' tables) (shape_of (written_out b q)) r
