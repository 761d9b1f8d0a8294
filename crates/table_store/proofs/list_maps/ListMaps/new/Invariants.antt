use Rattle.std.proofs.Common.{◌≡◌, ℕ, length}
use Rattle.std.specs.FinMap.{empty}
use Rattle.table_store.specs.Lists.{map_at}
use Rattle.table_store.proofs.list_maps.ListMaps.new.Given as goal

abbrev pub invariant-loop : goal.invariant-loop
invariant-loop l = record { full : length l.lists.items ≡ l.counter; none : (index : ℕ) → map_at l.lists.items index ≡ empty }
