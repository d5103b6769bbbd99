-- Each store changes one entry of one table. Assumes nothing.
use mathlib.Core.Path.{◌≡◌, sym}
use native.Mathlib.Omega.{arith}
use lib.ListN.{length}
use lib.Seq.{get_or-set_same, get_or-set_other}
use borrow.Author.Rules.{rules}
use Rattle.set_table.proofs.Entries.{same_entry}
use Rattle.set_table.proofs.Tables.write.Goals as goal

pub returns : goal.returns
returns c =
    let t = c.args.self.now in
    let many : length t.sets ≡ 61 = search rules in
    let long : length t.credits ≡ 61 = search rules in
    record {
      here = same_entry (get_or-set_same t.sets _ _ _ (omega (arith, c.requires))) (get_or-set_same t.credits _ _ 9 (omega (arith, c.requires)));
      others = λ j d. same_entry (get_or-set_other t.sets _ j _ _ (λ e. d (sym e))) (get_or-set_other t.credits _ j _ 9 (λ e. d (sym e)));
    }
