use Rattle.std.proofs.Common.{◌≡◌, List, ◌++◌, length, Some}
use Rattle.std.specs.FinMap.{get, entries}
use Rattle.iv_types.specs.declared.value.Value.{Value}
use Rattle.iv_types.specs.Maps.{Entry}
use Rattle.table_store.specs.Stored.{Follow, between}
use Rattle.table_store.proofs.Walks.{todo, low_part, place}
use Rattle.table_store.proofs.tables.rows_by_index.Given as goal

abbrev pub invariant-loop-next : goal.invariant-loop-next
invariant-loop-next g l =
    let m = g.M.SortedMaps.maps l.maps l.table.number in
    let n = g.M.SortedMaps.maps l.maps l.index.number in
    record {
      held : (e : Entry) → place l.next ≡ Some e → get n e.0 ≡ Some e.1;
      told : (rows : List (List Value)) → Follow l.table l.index m (low_part l.interval.high (todo (entries n) (place l.next))) rows → Follow l.table l.index m (between l.interval (entries n)) (l.rows.items ++ rows);
    }

abbrev pub decreases-loop-next : goal.decreases-loop-next
decreases-loop-next g l = length (todo (entries (g.M.SortedMaps.maps l.maps l.index.number)) (place l.next))
