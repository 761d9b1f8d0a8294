use Rattle.std.proofs.Common.{rules}
use Rattle.iv_meaning.specs.Resolving as defined
use Rattle.bind_resolve.specs.Seen.{scope_seen}
use Rattle.bind_resolve.proofs.EachLemmas.{each_same}
use Rattle.bind_resolve.proofs.expressions.group.Goals as goal

pub returns : goal.returns
returns c = each_same (defined.column_of (scope_seen c.args.scope.now)) _ _ (λ b r post. search rules) _ _ c.each.ensures
