use Rattle.std.proofs.Common.{◌+◌, length}
use Rattle.version_chain.specs.Trees.{items}
use Rattle.version_chain.proofs.balance.+linked.Given as goal

abbrev pub decreases-linked : goal.decreases-linked
decreases-linked g l = length (items l.left) + length (items l.right)
