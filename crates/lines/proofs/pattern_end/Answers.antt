-- The next byte 10 is looked for in the rest of the input. Assumes nothing.
use borrow.Author.Rules.{rules}
use Rattle.std.proofs.Common.{tests}
use Rattle.std.proofs.lemmas.Iterator.{YieldsList-from_slice}
use Rattle.std.proofs.lemmas.Iterator.Search.{position_from_yields_List}
use Rattle.lines.proofs.Cutting.{is_newline, rest, ends_found}
use Rattle.lines.proofs.pattern_end.Goals as goal

pub returns : goal.returns
returns c =
    let a = c.args in
    ends_found a.input.now a.from c.position.result _ c.requires
    (position_from_yields_List is_newline _ _ c.position.result c.position.ensures.ran (YieldsList-from_slice (rest a.input.now a.from) c.iter.ensures.rest) (λ x b q k. search (rules, tests)))
    c.unwrap_or-len.ensures
