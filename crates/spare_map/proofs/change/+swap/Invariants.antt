use Rattle.std.proofs.Common.{length}
use Rattle.spare_map.specs.Trees.{items}
use Rattle.spare_map.proofs.change.+swap.Given as goal

abbrev pub decreases-swap : goal.decreases-swap
decreases-swap g l = length (items l.tree.now)
