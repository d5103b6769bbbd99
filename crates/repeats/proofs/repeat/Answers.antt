-- By the byte that is next. Assumes nothing.
use Rattle.std.proofs.Common.{rules}
use lib.ListN.{length}
use borrow.Author.Tests.{ltb-true}
use Rattle.places.proofs.Places.{text_after, none_first}
use Rattle.parsed.specs.declared.Repeat.TheVariants.{Optional, Star, Plus}
use Rattle.repeats.proofs.Repeating.{repeat_on, repeat_not, repeat_times}
use Rattle.repeats.proofs.repeat.Goals as goal
use Rattle.repeats.proofs.repeat.Goals.{in_default-via-then-text-lt1, in_default-via-else-text-lt1+in_default-1}

pub returns-in-63-clause-says : goal.returns-in-63-clause-says
returns-in-63-clause-says c from m R w = repeat_on _ from _ m _ _ _ R _ w _ (text_after 1 _) Optional _ _ _ (search rules) c.again.ensures

pub returns-in-42-clause-says : goal.returns-in-42-clause-says
returns-in-42-clause-says c from m R w = repeat_on _ from _ m _ _ _ R _ w _ (text_after 1 _) Star _ _ _ (search rules) c.again-in-42.ensures

pub returns-in-43-clause-says : goal.returns-in-43-clause-says
returns-in-43-clause-says c from m R w = repeat_on _ from _ m _ _ _ R _ w _ (text_after 1 _) Plus _ _ _ (search rules) c.again-in-43.ensures

pub returns-in_ok-i-in-123-clause-says : goal.returns-in_ok-i-in-123-clause-says
returns-in_ok-i-in-123-clause-says c from m R w = repeat_times _ from _ m _ _ _ R _ w _ (text_after 1 c.args.text.now) (search rules) _ _ _ _ c.in_ok-i-in-123.ensures c.interval-in-123.ensures.says

pub returns-in_default-clause-says : goal.returns-in_default-clause-says
returns-in_default-clause-says c from m R w =
    elim c.in_default.branch [
      | in_default-via-then-text-lt1 v ↦
          let none = ltb-true (length c.args.text.now) 1 (search rules) in
          repeat_not _ from _ m _ _ _ R _ w (none_first c.args.text.now _ none) (none_first c.args.text.now _ none) (none_first c.args.text.now _ none) (none_first c.args.text.now _ none)
      | in_default-via-else-text-lt1+in_default-1 v ↦ repeat_not _ from _ m _ _ _ R _ w (search rules) (search rules) (search rules) (search rules)
    ]
