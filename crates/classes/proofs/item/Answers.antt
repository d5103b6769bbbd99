-- Where there is no first class letter, the rules end the class. Assumes nothing.
use Rattle.classes.proofs.Members.{no_item}
use Rattle.classes.proofs.item.Goals as goal

pub returns-in_err-lo : goal.returns-in_err-lo
returns-in_err-lo c = rw c.from_residual.ensures (no_item c.args.text.now c.in_err-lo.ensures)
