use Rattle.std.proofs.Common.{◌≡◌, List, ◌++◌, length, Some}
use Rattle.std.specs.FinMap.{get, entries}
use Rattle.iv_types.specs.declared.lock.ViewRow.{ViewRow}
use Rattle.iv_types.specs.Maps.{Entry}
use Rattle.table_store.specs.Stored.{between}
use Rattle.ghost_rows.specs.Reading.{Shows}
use Rattle.table_store.proofs.Walks.{todo, low_part, place}
use Rattle.ghost_rows.proofs.reading.rows_between.Given as goal

abbrev pub invariant-loop-next : goal.invariant-loop-next
invariant-loop-next g l =
    let m = g.M.SortedMaps.maps l.maps l.view in
    record {
      held : (e : Entry) → place l.next ≡ Some e → get m e.0 ≡ Some e.1;
      told : (rows : List ViewRow) → Shows (low_part l.interval.high (todo (entries m) (place l.next))) rows → Shows (between l.interval (entries m)) (l.rows.items ++ rows);
    }

abbrev pub decreases-loop-next : goal.decreases-loop-next
decreases-loop-next g l = length (todo (entries (g.M.SortedMaps.maps l.maps l.view)) (place l.next))
