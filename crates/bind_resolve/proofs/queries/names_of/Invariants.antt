use Rattle.std.proofs.Common.{◌≡◌, ◌++◌, map, drop}
use Rattle.iv_meaning.specs.Resolving as defined
use Rattle.bind_resolve.specs.Seen.{item_seen, names_in}
use Rattle.bind_resolve.proofs.queries.names_of.Given as goal

abbrev pub invariant-loop-item : goal.invariant-loop-item
invariant-loop-item l = names_in l.names ++ defined.names_in (map item_seen (drop l.item-index l.items)) ≡ defined.names_in (map item_seen l.items)
