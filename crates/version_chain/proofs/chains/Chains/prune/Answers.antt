use Rattle.std.proofs.Common.{rules, sym, subst}
use Rattle.version_chain.specs.Versions.{AreInOrder}
use Rattle.version_chain.specs.Trees.{items}
use Rattle.version_chain.proofs.Around.{in_order_above}
use Rattle.version_chain.proofs.chains.Chains.prune.Goals as goal

pub invariant_of-self : goal.invariant_of-self
invariant_of-self g c =
    (subst AreInOrder (sym c.cut.ensures.items) (in_order_above c.args.oldest (items c.replace-root.result) (search rules)), c.cut.ensures.marked)
