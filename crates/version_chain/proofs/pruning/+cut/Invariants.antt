use Rattle.std.proofs.Common.{length}
use Rattle.version_chain.specs.Trees.{items}
use Rattle.version_chain.proofs.pruning.+cut.Given as goal

abbrev pub decreases-cut : goal.decreases-cut
decreases-cut g l = length (items l.tree)
