use Rattle.std.proofs.Common.{◌≡◌, ℕ, length}
use Rattle.std.specs.FinMap.{empty}
use Rattle.table_store.specs.Lists.{map_at}
use Rattle.tree_maps.proofs.tree_maps.TreeMaps.new.Given as goal

abbrev pub invariant-loop : goal.invariant-loop
invariant-loop l = record { full : length l.trees.items ≡ l.counter; none : (index : ℕ) → map_at l.trees.items index ≡ empty }
