use Rattle.std.proofs.Common.{◌≡◌, ◌++◌, length, Some}
use Rattle.std.specs.FinMap.{get, entries}
use Rattle.iv_types.specs.Maps.{Entry}
use Rattle.table_store.proofs.Walks.{todo, place}
use Rattle.map_copying.specs.Entries.{entries_in}
use Rattle.map_copying.proofs.gathering.entries_of.Given as goal

abbrev pub invariant-loop-next : goal.invariant-loop-next
invariant-loop-next g l =
    let m = g.M.SortedMaps.maps l.maps l.index in
    record {
      told : l.found ++ entries_in l.index (todo (entries m) (place l.next)) ≡ entries_in l.index (entries m);
    }

abbrev pub decreases-loop-next : goal.decreases-loop-next
decreases-loop-next g l = length (todo (entries (g.M.SortedMaps.maps l.maps l.index)) (place l.next))
