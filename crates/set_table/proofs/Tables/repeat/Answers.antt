-- Both tables are copied on. Assumes nothing.
use Rattle.set_table.proofs.Entries.{same_entry}
use Rattle.set_table.proofs.Tables.repeat.Goals as goal

pub returns : goal.returns
returns c =
    let s = c.entries.ensures in
    let n = c.entries-2.ensures in
    record {
      copied = λ i h l. same_entry (s.copied _ i h l) (n.copied 9 i h l);
      below = λ i h. same_entry (s.below _ i h) (n.below 9 i h);
      above = λ i h. same_entry (s.above _ i h) (n.above 9 i h);
    }
