use Rattle.std.proofs.Common.{◌-◌}
use Rattle.tbtree.proofs.insertion.+hang.Given as goal

abbrev pub decreases-hang : goal.decreases-hang
decreases-hang g l = l.tree.now.levels - l.level
