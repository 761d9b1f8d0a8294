use Rattle.std.proofs.Common.{◌≡◌, List, ◌++◌, length, Some}
use Rattle.std.specs.FinMap.{get, entries}
use Rattle.iv_types.specs.declared.value.Value.{Value}
use Rattle.iv_types.specs.Maps.{Entry}
use Rattle.table_store.specs.Stored.{Decode, between}
use Rattle.table_store.proofs.Walks.{todo, low_part, place}
use Rattle.table_store.proofs.tables.rows_between.Given as goal

abbrev pub invariant-loop-next : goal.invariant-loop-next
invariant-loop-next g l =
    let m = g.M.SortedMaps.maps l.maps l.table.number in
    record {
      held : (e : Entry) → place l.next ≡ Some e → get m e.0 ≡ Some e.1;
      told : (rows : List (List Value)) → Decode l.table (low_part l.interval.high (todo (entries m) (place l.next))) rows → Decode l.table (between l.interval (entries m)) (l.rows.items ++ rows);
    }

abbrev pub decreases-loop-next : goal.decreases-loop-next
decreases-loop-next g l = length (todo (entries (g.M.SortedMaps.maps l.maps l.table.number)) (place l.next))
