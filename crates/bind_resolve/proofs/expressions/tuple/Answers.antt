use Rattle.std.proofs.Common.{rules}
use Rattle.iv_types.specs.Trees.{tree}
use Rattle.iv_meaning.specs.Resolving as defined
use Rattle.bind_resolve.specs.Seen.{scope_seen}
use Rattle.bind_resolve.proofs.EachLemmas.{each_called}
use Rattle.bind_resolve.proofs.expressions.tuple.Goals as goal

pub returns : goal.returns
returns c = each_called (defined.expression (scope_seen c.args.scope.now)) tree tree _ _ (λ b r post. search rules) _ _ c.each.ensures
