-- Where it goes round, its firsts may follow its lasts by one link more. Assumes nothing.
use mathlib.Core.Path.{◌≡◌, refl, sym}
use mathlib.Core.Bool.{false}
use Rattle.pattern.specs.Parts.{is_misbounded}
use Rattle.parsed.specs.declared.Repeat.{Repeat}
use Rattle.parsed.specs.declared.Repeat.TheVariants.{Optional, Star, Plus}
use Rattle.parsed.specs.Parsed.{rule_of}
use Rattle.parsed.proofs.Joining.{has_again}
use Rattle.parsed.proofs.Parsed.again.Goals as goal

not_named : (k : Repeat) → is_misbounded (rule_of k) ≡ false
not_named Optional = refl
not_named Star = refl
not_named Plus = refl

pub returns : goal.returns
returns c n m tables q h =
    let k = c.args.repeat in
    has_again n m _ _ tables q _ h (rule_of k) _ _ (sym c.skips.ensures) (sym c.loops.ensures) (not_named k) _ _ _ _ c.union_if-back.ensures c.link_again-second.ensures
