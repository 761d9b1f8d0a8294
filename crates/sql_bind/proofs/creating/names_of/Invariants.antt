use Rattle.std.proofs.Common.{◌≡◌, ◌++◌, map, drop}
use Rattle.iv_meaning.specs.Resolving.{names_in}
use Rattle.bind_resolve.specs.Seen.{item_seen}
use Rattle.sql_bind.proofs.creating.names_of.Given as goal

abbrev pub invariant-loop-item : goal.invariant-loop-item
invariant-loop-item l = l.names ++ names_in (map item_seen (drop l.item-index l.items)) ≡ names_in (map item_seen l.items)
