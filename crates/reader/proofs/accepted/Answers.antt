-- The rows with the firsts in row 0, and the lasts with 0 among them where the pattern can be empty. Assumes nothing.
use mathlib.Core.Path.{◌≡◌, refl, ap, ◌∙◌}
use mathlib.Core.Bool.{Bool, ◌&&◌, ◌||◌}
use native.Mathlib.Omega.{arith}
use lib.ListN.{length}
use borrow.Author.Rules.{rules}
use Rattle.bits.specs.Bits.{has_bit}
use Rattle.reader.proofs.Building.{built_shown}
use Rattle.reader.proofs.accepted.Goals as goal

pub returns : goal.returns
returns c =
    let start = c.args in
    let long : length start.rows ≡ 61 = search rules in
    record {
      graph = built_shown start.part start.rows start.tables.now.sets start.tables.now.credits c.union_if.result (omega arith) c.requires
          (λ j. c.union_if.ensures j ∙ ap (λ (x : Bool). has_bit start.part.lasts j || (start.part.empty && x)) (c.only.ensures j));
      doubled = refl;
    }
