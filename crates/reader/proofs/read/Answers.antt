-- Where no test applies, what was parsed is the whole pattern, and no two states have more than 256 links, so that none is lost.
-- Assumes nothing.
use Rattle.std.proofs.Common.{rules}
use mathlib.Core.Path.{◌≡◌, sym, ◌∙◌, subst}
use Prim.Native.Nat.{◌≤◌}
use native.Mathlib.Omega.{arith}
use Rattle.graph.specs.Graph.{Bounded}
use Rattle.pattern.specs.Grammar.{pattern_part}
use Rattle.pattern.specs.Positions.{positions}
use Rattle.pattern.specs.Refusals.{pattern_refusal}
use Rattle.parsed.specs.Parsed.{shape_of}
use Rattle.parsed.proofs.Storing.{none_stored}
use Rattle.parts.specs.Parsing.{Whole}
use Rattle.reader.proofs.Depth.{links_few}
use Rattle.reader.proofs.Building.{stored_bounded, single_shown}
use Rattle.reader.proofs.read.Goals as goal

pub parse-p-requires : goal.parse-p-requires
parse-p-requires c = (none_stored _ c.empty.ensures, c.requires)

pub returns : goal.returns
returns c =
    let s = c.args.s.now in
    let now = c.parse-p.new in
    let parsed : Whole (shape_of (pattern_part s)) c.parse-p.result.rows now.more now.tables.sets now.tables.credits _ = rw (← c.in-Some-default-empty.part-is) at (rw c.in-Some-default-empty.is at c.parse-p.ensures.says).has in
    let few : positions (pattern_part s) ≤ 60 = let count = parsed.count in let n = c.if-part-gt-MOST.false in omega arith in
    let w = parsed.keeps few in
    let none : pattern_refusal s ≡ 0 = search rules in
    let made = c.accepted-built.ensures in
    let same = made.graph (pattern_part s) _ w few (links_few s none) in
    record {
      refusal = sym none;
      built = record {
        graph = same;
        bounded = subst Bounded (sym same) (stored_bounded (pattern_part s) _ _ w.stored few);
        single = λ d. single_shown c.accepted-built.result now.more (w.none (sym made.doubled ∙ d));
      };
    }
