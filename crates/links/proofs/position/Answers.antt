-- A position up to 60 has its place in a set; past that no number that has a place is it. Assumes nothing.
use mathlib.Core.Path.{sym, ap, ◌∙◌}
use mathlib.Core.Bool.{Bool, ◌&&◌, and-false}
use native.Mathlib.Omega.{arith}
use borrow.Author.Tests.{lt-ltb, le-ltb, eq-eqb, ne_eqb}
use Rattle.basics.proofs.Tests.{by_equal}
use Rattle.bits.proofs.Laws.{has_none}
use Rattle.links.specs.Rows.{kept}
use Rattle.links.proofs.position.Goals as goal

pub returns-then-n-lt-ROWS : goal.returns-then-n-lt-ROWS
returns-then-n-lt-ROWS c b =
    let n = c.args.n in
    c.only.ensures b
    ∙ by_equal b n
    (λ z. eq-eqb n b (sym z) ∙ sym (rw (lt-ltb b 61 (omega arith), eq-eqb b n z)))
    (λ d. ne_eqb n b (λ z. d (sym z)) ∙ sym (ap (λ (t : Bool). kept b && t) (ne_eqb b n d) ∙ and-false (kept b)))

pub returns-else-n-lt-ROWS : goal.returns-else-n-lt-ROWS
returns-else-n-lt-ROWS c b =
    let n = c.args.n in
    has_none b
    ∙ sym (by_equal b n (λ z. rw (le-ltb b 61 (omega arith))) (λ d. ap (λ (t : Bool). kept b && t) (ne_eqb b n d) ∙ and-false (kept b)))
