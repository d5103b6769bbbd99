-- The line of what vetting gave is the pattern's. Assumes nothing.
use Prim.Native.Nat.{ℕ, ◌≤◌}
use native.Mathlib.Omega.{arith}
use lib.ListN.{length, replicate, length-replicate}
use Rattle.fields.proofs.Putting.{puts_same}
use Rattle.lines.proofs.Vetting.{line_is}
use Rattle.lines.proofs.pattern_line.Goals as goal

-- so many zeros
many : (n : ℕ) → n ≤ length (replicate {A = ℕ} n 0)
many n = let e = length-replicate {A = ℕ} n 0 in omega arith

pub returns-clause-puts : goal.returns-clause-puts
returns-clause-puts c =
    let a = c.args in
    let v = c.vet_pattern-vetted in
    puts_same c.put_result.ensures.puts
    (line_is a.pattern.now (replicate 4096 0) v.new.evidence (replicate 4096 0) v.new.scratch (many 4096) (many 4096) a.number v.result v.ensures)
