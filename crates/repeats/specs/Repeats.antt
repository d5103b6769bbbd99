-- Atoms that are repeated: what the contracts cite.
use Rattle.std.specs.Prelude.{List, ℕ, ◌<◌, ◌≤◌, Option}
use Rattle.std.specs.Borrow.{Bor}
use Rattle.pattern.specs.Parts.{Part, written_out}
use Rattle.pattern.specs.Grammar.{Read, repeated}
use Rattle.bounds.specs.declared.IntervalRead.{IntervalRead}
use Rattle.bounds.specs.Bounds.{bounds_of}
use Rattle.parsed.specs.declared.Parsed.{Parsed}
use Rattle.parsed.specs.Parsed.{shape_of, Memory, Has, Gives, Stands}

-- p has the positions after n, one at least, or there are more than are kept
pub record Placed (n : ℕ) (p : Parsed) : Type 0 where
  pub on : n ≤ p.n
  pub cut : p.n ≤ 61
  pub some : p.n ≤ 60 → n < p.n

-- whatever part p has the shape of, r has that of the part with the interval i
abbrev pub WritesOut : ℕ → IntervalRead → Memory → Memory → Parsed → Parsed → Type 0
WritesOut n i now now' p r = (m : Memory) (q : Part) → Has n m now (shape_of q) p → Has n m now' (shape_of (written_out (bounds_of i) q)) r

-- whatever p and the text after it stand for, the result stands for that, repeated, where the memory was `now` and is now'
abbrev pub ReadsRepeat : List ℕ → ℕ → Memory → Memory → Parsed → Option (Parsed × Bor (List ℕ)) → Type 0
ReadsRepeat text n now now' p r = (from : List ℕ) (m : Memory) (R : Read) → Gives from n m now R p text → Stands from n m now' (repeated R) r
