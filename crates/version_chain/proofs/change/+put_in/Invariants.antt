use Rattle.std.proofs.Common.{length}
use Rattle.version_chain.specs.Trees.{items}
use Rattle.version_chain.proofs.change.+put_in.Given as goal

abbrev pub decreases-put_in : goal.decreases-put_in
decreases-put_in g l = length (items l.tree)
