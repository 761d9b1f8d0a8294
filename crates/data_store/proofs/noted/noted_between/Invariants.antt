use Rattle.std.proofs.Common.{◌≡◌, List, ◌<◌, ◌^◌, length, Some}
use Rattle.std.specs.FinMap.{get, entries}
use Rattle.iv_types.specs.Maps.{Entry}
use Rattle.iv_meaning.specs.Database.{Row}
use Rattle.table_store.specs.Stored.{between}
use Rattle.table_store.proofs.Walks.{todo, low_part, place}
use Rattle.data_store.specs.Shown.{Shows, Counts}
use Rattle.data_store.proofs.noted.noted_between.Given as goal

abbrev pub invariant-loop-next : goal.invariant-loop-next
invariant-loop-next g l =
    let m = g.M.SortedMaps.maps l.maps l.view in
    record {
      fits : l.size < 2 ^ 64;
      held : (e : Entry) → place l.next ≡ Some e → get m e.0 ≡ Some e.1;
      told : (rows : List Row) → Shows l.kinds (between l.interval (entries m)) rows → Counts l.kinds (low_part l.interval.high (todo (entries m) (place l.next))) l.size rows;
    }

abbrev pub decreases-loop-next : goal.decreases-loop-next
decreases-loop-next g l = length (todo (entries (g.M.SortedMaps.maps l.maps l.view)) (place l.next))
