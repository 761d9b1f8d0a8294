use Rattle.std.proofs.Common.{◌≡◌, drop, map}
use Rattle.iv_meaning.specs.Query.{order_cmp}
use Rattle.iv_meaning.specs.Bound.{order_tree}
use Rattle.query_exec.proofs.ordering.by_terms.Given as goal

abbrev pub invariant-loop-term : goal.invariant-loop-term
invariant-loop-term l = order_cmp (map order_tree (drop l.term-index l.order)) l.a l.b ≡ order_cmp (map order_tree l.order) l.a l.b
