-- What is counted, and what the entries from the next one on count, is what all count.
use Rattle.std.proofs.Common.{◌≡◌, ◌+◌, ◌-◌, ◌^◌, ◌≤◌, length, min}
use Rattle.std.specs.Prelude.{sum_by}
use Rattle.std.specs.FinMap.{entries}
use Rattle.iv_types.specs.Maps.{entry_size, map_size}
use Rattle.table_store.proofs.Walks.{todo, place}
use Rattle.image_opening.proofs.bytes.index_bytes.Given as goal

abbrev pub invariant-loop-next : goal.invariant-loop-next
invariant-loop-next g l =
    let m = g.M.SortedMaps.maps l.maps l.index in
    record {
      told : min (l.bytes + sum_by entry_size (todo (entries m) (place l.next))) (2 ^ 64 - 1) ≡ min (map_size m) (2 ^ 64 - 1);
      low : l.bytes ≤ 2 ^ 64 - 1;
    }

abbrev pub decreases-loop-next : goal.decreases-loop-next
decreases-loop-next g l = length (todo (entries (g.M.SortedMaps.maps l.maps l.index)) (place l.next))
