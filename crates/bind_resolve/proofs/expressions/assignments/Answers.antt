use Rattle.std.proofs.Common.{rules}
use Rattle.iv_types.specs.Trees as trees_of
use Rattle.iv_meaning.specs.Resolving as defined
use Rattle.bind_resolve.specs.Seen.{scope_seen}
use Rattle.iv_meaning.specs.Bound.{set_tree}
use Rattle.bind_resolve.proofs.EachLemmas.{each_called}
use Rattle.bind_resolve.proofs.expressions.assignments.Goals as goal

pub returns : goal.returns
returns c = each_called (defined.assignment (scope_seen c.args.scope.now)) trees_of.set_tree set_tree _ _ (λ b r post. search rules) _ _ c.each.ensures
