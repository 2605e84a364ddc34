use Rattle.std.proofs.Common.{◌-◌}
use Rattle.share_group.proofs.trees.+split.Given as goal

abbrev pub decreases-split : goal.decreases-split
decreases-split l = l.last - l.low
