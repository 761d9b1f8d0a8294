use Rattle.std.proofs.Common.{sym}
use Rattle.version_chain.specs.Trees.{items}
use Rattle.version_chain.proofs.Numbers.{all_above}
use Rattle.version_chain.proofs.pruning.+cut.Goals as goal

pub returns-then-least-oldest-clause-items : goal.returns-then-least-oldest-clause-items
returns-then-least-oldest-clause-items g t c = sym (all_above c.args.oldest c.least.result (items c.args.tree) c.if-least-oldest.true c.least.ensures)
