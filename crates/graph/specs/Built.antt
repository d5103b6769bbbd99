-- The graph that a built pattern shows, with the table of the links beyond the first: from state u to position i at 61 * u + i.
use Rattle.std.specs.Prelude.{List, ℕ, suc, ◌+◌, ◌*◌, ℤ, get_or, if◌then◌else◌}
use Rattle.std.proofs.Math.IntN.{sub_ℕ}
use Rattle.bits.specs.Bits.{has_bit}
use Rattle.letters.specs.LetterSet.{has_letter}
use Rattle.letters.specs.LetterSet.{set_at}
use Rattle.graph.specs.Graph.{Graph}
use Rattle.graph.specs.declared.Built.{Built}

-- Programs keep a credit raised by 9, so that it has no sign. The sum of n credits, where x is the sum of the raised ones.
abbrev pub lowered : ℕ → ℕ → ℤ
lowered n x = sub_ℕ x (9 * n)

-- the credit that a table of raised ones has for position i; past its end 0
abbrev pub credit_in : List ℕ → ℕ → ℤ
credit_in credits i = lowered 1 (get_or credits i 9)

abbrev pub graph_of_built : Built → List ℕ → Graph
graph_of_built b more = record {
  positions = b.positions;
  links = λ u i. if has_bit (get_or b.follow u 0) i then suc (get_or more (61 * u + i) 0) else 0;
  last = λ u. has_bit b.lasts u;
  holds = λ i c. has_letter (set_at b.letters i) c;
  credit = credit_in b.credits;
}
