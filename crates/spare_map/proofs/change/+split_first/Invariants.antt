use Rattle.std.proofs.Common.{length}
use Rattle.spare_map.specs.Trees.{whole}
use Rattle.spare_map.proofs.change.+split_first.Given as goal

abbrev pub decreases-split_first : goal.decreases-split_first
decreases-split_first g l = length (whole l.node.value)
