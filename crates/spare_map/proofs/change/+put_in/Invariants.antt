use Rattle.std.proofs.Common.{length}
use Rattle.spare_map.specs.Trees.{items}
use Rattle.spare_map.proofs.change.+put_in.Given as goal

abbrev pub decreases-put_in : goal.decreases-put_in
decreases-put_in g l = length (items l.tree)
