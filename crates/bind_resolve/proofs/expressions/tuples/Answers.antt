use Rattle.std.proofs.Common.{rules, []}
use Rattle.iv_types.specs.Trees.{trees}
use Rattle.iv_meaning.specs.Resolving as defined
use Rattle.bind_resolve.proofs.EachLemmas.{each_called}
use Rattle.bind_resolve.proofs.expressions.tuples.Goals as goal

pub returns : goal.returns
returns c = each_called (defined.each (defined.expression (record { relations = []; columns = [] }))) trees trees _ _ (λ b r post. search rules) _ _ c.each.ensures
