-- Within the 64 slots both ends are where `cut` puts them, and past them the word has nothing. Assumes nothing.
use mathlib.Core.Path.{sym, ap, ap₂, ◌∙◌}
use mathlib.Core.Bool.{Bool, not, ◌&&◌, and-false}
use Prim.Native.Nat.{◌+◌}
use mathlib.Core.Logic.{⊎_elim}
use native.Mathlib.Omega.{arith}
use lib.Dec.{ltb, leb}
use borrow.Author.Tests.{lt-ltb, le-ltb}
use Rattle.basics.proofs.Tests.{le_or_lt, not_less}
use Rattle.ranges.proofs.word.Goals as goal

pub returns : goal.returns
returns c j =
    let from = c.args.from in
    let to = c.args.to in
    let base = c.args.base in
    let first = c.cut in
    let last = c.cut-2 in
    c.span.ensures j
    ∙ ⊎_elim
    (λ h.
    ap (λ (t : Bool). leb first.result j && t) (le-ltb j last.result (omega (arith, last.ensures.0))) ∙ and-false (leb first.result j)
    ∙ sym (ap (λ (t : Bool). t && (leb from (base + j) && ltb (base + j) to)) (le-ltb j 64 h)))
    (λ h.
    ap₂ ◌&&◌ (sym (not_less j first.result) ∙ ap not (first.ensures.1 j h) ∙ not_less (base + j) from) (last.ensures.1 j h)
    ∙ sym (ap (λ (t : Bool). t && (leb from (base + j) && ltb (base + j) to)) (lt-ltb j 64 h)))
    (le_or_lt 64 j)
