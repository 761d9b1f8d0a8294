use Rattle.std.proofs.Common.{◌≡◌, ◌++◌, map, drop}
use Rattle.std.specs.List.{filter_map}
use Rattle.iv_meaning.specs.Binding.{summed}
use Rattle.bind_resolve.specs.Seen.{item_seen}
use Rattle.sql_bind.proofs.creating.sums_of.Given as goal

abbrev pub invariant-loop-item : goal.invariant-loop-item
invariant-loop-item l = l.sums ++ filter_map (λ i. summed i.item) (map item_seen (drop l.item-index l.items)) ≡ filter_map (λ i. summed i.item) (map item_seen l.items)
