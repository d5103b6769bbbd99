-- Two sets share a letter where their letters alone do. Assumes nothing.
use mathlib.Core.Path.{◌∙◌}
use Rattle.letters.proofs.Order.{some_alike}
use Rattle.shares.specs.Tables.{held}
use Rattle.shares.proofs.Letters.{held_alike}
use Rattle.shares.proofs.share_rows.Goals as goal

pub returns : goal.returns
returns c i j l k =
    let cut = c.letters_of-cut in
    c.share_rows_of_letters.ensures i j l k ∙ some_alike (held cut.result i j) (held c.args.b.now.letters i j) (held_alike _ _ cut.ensures i j)
