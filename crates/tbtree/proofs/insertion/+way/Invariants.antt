use Rattle.std.proofs.Common.{◌-◌}
use Rattle.tbtree.proofs.insertion.+way.Given as goal

abbrev pub decreases-way : goal.decreases-way
decreases-way g l = l.tree.now.levels - l.level
