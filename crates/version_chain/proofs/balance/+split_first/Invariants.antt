use Rattle.std.proofs.Common.{length}
use Rattle.version_chain.specs.Trees.{whole}
use Rattle.version_chain.proofs.balance.+split_first.Given as goal

abbrev pub decreases-split_first : goal.decreases-split_first
decreases-split_first g l = length (whole l.node.value)
