use Rattle.std.proofs.Common.{◌≤◌}
use Rattle.data_store.specs.Contents.{Contents}
use Rattle.image_views.specs.Compared.{CanCompare, IsFoundBelow}
use Rattle.image_views.proofs.check.check_views.Given as goal

abbrev pub invariant-loop-number : goal.invariant-loop-number
invariant-loop-number g l = record {
  told : (x : Contents) → CanCompare l.store.catalog (g.M.SortedMaps.maps l.store.tables) l.store.views x → IsFoundBelow x l.number l.found;
  within : l.number ≤ l.number-end;
}
