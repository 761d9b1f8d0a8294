use Rattle.std.proofs.Common.{length}
use Rattle.version_chain.specs.Trees.{items}
use Rattle.version_chain.proofs.deltas.+lessened.Given as goal

abbrev pub decreases-lessened : goal.decreases-lessened
decreases-lessened l = length (items l.tree.now)
