use Rattle.std.proofs.Common.{length}
use Rattle.spare_map.specs.Trees.{items}
use Rattle.spare_map.proofs.change.+take_out.Given as goal

abbrev pub decreases-take_out : goal.decreases-take_out
decreases-take_out g l = length (items l.tree)
