-- With `^` and without. Assumes nothing.
use Rattle.std.proofs.Common.{rules}
use lib.ListN.{length}
use borrow.Author.Tests.{ltb-true}
use Rattle.places.proofs.Places.{text_after, none_first}
use Rattle.classes.proofs.Classing.{class_plain, others_bad, class_others}
use Rattle.classes.proofs.class.Goals as goal
use Rattle.classes.proofs.class.Goals.{in_default-via-then-text-lt1, in_default-via-else-text-lt1+in_default-1}

pub returns-in_err-named-in-94 : goal.returns-in_err-named-in-94
returns-in_err-named-in-94 c = rw c.from_residual.ensures (others_bad c.args.text.now _ (text_after 1 _) (search rules) c.in_err-named-in-94.ensures)

pub returns-in_ok-named-in-94 : goal.returns-in_ok-named-in-94
returns-in_ok-named-in-94 c = class_others c.args.text.now _ (text_after 1 _) (search rules) _ _ _ c.in_ok-named-in-94.ensures c.complement-set.ensures

pub returns-in_default : goal.returns-in_default
returns-in_default c =
    class_plain c.args.text.now _
    (elim c.in_default.branch [
      | in_default-via-then-text-lt1 w ↦ none_first c.args.text.now _ (ltb-true (length c.args.text.now) 1 (search rules))
      | in_default-via-else-text-lt1+in_default-1 w ↦ search rules
    ])
    c.items-in_default.ensures
