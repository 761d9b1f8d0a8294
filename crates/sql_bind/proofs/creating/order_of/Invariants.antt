use Rattle.std.proofs.Common.{◌≡◌, ◌++◌, map, drop}
use Rattle.std.specs.List.{filter_map}
use Rattle.iv_meaning.specs.Bound.{order_tree}
use Rattle.iv_meaning.specs.Tests.{ordered}
use Rattle.bind_resolve.specs.Seen.{item_seen}
use Rattle.sql_bind.proofs.creating.order_of.Given as goal

abbrev pub invariant-loop-term : goal.invariant-loop-term
invariant-loop-term l = map order_tree l.found ++ filter_map (ordered (map item_seen l.items)) (drop l.term-index l.order) ≡ filter_map (ordered (map item_seen l.items)) l.order
