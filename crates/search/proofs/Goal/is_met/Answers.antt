-- Each branch is the definition's. Assumes nothing.
use mathlib.Core.Path.{refl}
use Rattle.search.proofs.Visiting.{mask_either, goal_together, goal_parted}
use Rattle.search.proofs.Goal.is_met.Goals.{in-OnePath-self, in-OnePath-self-2}
use Rattle.search.proofs.Goal.is_met.Goals as goal

pub returns-in-OnePath : goal.returns-in-OnePath
returns-in-OnePath c = goal_together c.args.self c.requires c.in-Together.is c.in-OnePath.is c.has.ensures

pub returns-in-Parted-self : goal.returns-in-Parted-self
returns-in-Parted-self c = goal_together c.args.self c.requires c.in-Together.is c.in-Parted-self.is refl

pub returns-after-self-2 : goal.returns-after-self-2
returns-after-self-2 c =
    goal_parted c.args.self c.requires c.in-Parted.is
    (elim c.match-self-2.branch [
      | in-OnePath-self w ↦ mask_either w.mask-is w.in-OnePath-self.is
      | in-OnePath-self-2 w ↦ mask_either w.mask-is w.in-OnePath-self.is
    ])
    c.has-in-Parted.ensures c.has-in-Parted-2.ensures
