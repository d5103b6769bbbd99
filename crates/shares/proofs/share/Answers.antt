-- The set of both is empty just where they share no letter. Assumes nothing.
use mathlib.Core.Path.{ap, ◌∙◌}
use mathlib.Core.Bool.{not, ◌&&◌, not-not}
use Prim.Native.Nat.{ℕ}
use Rattle.basics.proofs.Tests.{and_parts}
use Rattle.letters.specs.LetterSet.{has_letter}
use Rattle.letters.proofs.Sets.{only_letters, none_same}
use Rattle.shares.proofs.share.Goals as goal

pub returns : goal.returns
returns c =
    let s = c.args.s in
    let t = c.args.t in
    let both = λ (d : ℕ). has_letter s d && has_letter t d in
    let letters = only_letters both (λ d h. c.requires d (and_parts (has_letter s d) (has_letter t d) h).0) in
    ap not (none_same c.intersection.result both (λ d. c.intersection.ensures d ∙ letters d) c.is_empty.result c.is_empty.ensures.0 c.is_empty.ensures.1) ∙ not-not _
