use Rattle.std.proofs.Common.{◌≡◌, ◌+◌, ◌-◌, ◌^◌, ◌<◌, min, length}
use Rattle.std.specs.FinMap.{entries}
use Rattle.table_store.specs.Stored.{between, noted_entries}
use Rattle.table_store.proofs.Walks.{todo, low_part, place}
use Rattle.table_store.proofs.tables.noted_between.Given as goal

abbrev pub invariant-loop-next : goal.invariant-loop-next
invariant-loop-next g l =
    let m = g.M.SortedMaps.maps l.maps l.index in
    record {
      fits : l.size < 2 ^ 64;
      told : min (l.size + noted_entries (low_part l.interval.high (todo (entries m) (place l.next)))) (2 ^ 64 - 1) ≡ min (noted_entries (between l.interval (entries m))) (2 ^ 64 - 1);
    }

abbrev pub decreases-loop-next : goal.decreases-loop-next
decreases-loop-next g l = length (todo (entries (g.M.SortedMaps.maps l.maps l.index)) (place l.next))
