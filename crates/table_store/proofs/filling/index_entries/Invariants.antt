use Rattle.std.proofs.Common.{◌≡◌, length, Some}
use Rattle.std.specs.FinMap.{get, entries}
use Rattle.iv_types.specs.Maps.{Entry}
use Rattle.table_store.proofs.Filled.{Walked}
use Rattle.table_store.proofs.Walks.{todo, place}
use Rattle.table_store.proofs.filling.index_entries.Given as goal

abbrev pub invariant-loop-next : goal.invariant-loop-next
invariant-loop-next g l =
    let m = g.M.SortedMaps.maps l.maps l.table.number in
    record {
      held : (e : Entry) → place l.next ≡ Some e → get m e.0 ≡ Some e.1;
      told : Walked l.table l.index (entries m) (todo (entries m) (place l.next)) l.found;
    }

abbrev pub decreases-loop-next : goal.decreases-loop-next
decreases-loop-next g l = length (todo (entries (g.M.SortedMaps.maps l.maps l.table.number)) (place l.next))
