use Rattle.std.proofs.Common.{◌≡◌, ◌+◌, ◌-◌, ◌^◌, ◌<◌, min, List, length, Some}
use Rattle.std.specs.FinMap.{get, entries}
use Rattle.iv_types.specs.declared.value.Value.{Value}
use Rattle.iv_types.specs.Maps.{Entry}
use Rattle.table_store.specs.Stored.{Follow, between, noted_rows}
use Rattle.table_store.proofs.Walks.{todo, low_part, place}
use Rattle.table_store.proofs.tables.noted_by_index.Given as goal

abbrev pub invariant-loop-next : goal.invariant-loop-next
invariant-loop-next g l =
    let m = g.M.SortedMaps.maps l.maps l.table.number in
    let n = g.M.SortedMaps.maps l.maps l.index.number in
    record {
      fits : l.size < 2 ^ 64;
      held : (e : Entry) → place l.next ≡ Some e → get n e.0 ≡ Some e.1;
      told : (rows : List (List Value)) → Follow l.table l.index m (between l.interval (entries n)) rows
          → (rest : List (List Value)) × Follow l.table l.index m (low_part l.interval.high (todo (entries n) (place l.next))) rest
          × (min (l.size + noted_rows l.table rest) (2 ^ 64 - 1) ≡ min (noted_rows l.table rows) (2 ^ 64 - 1));
    }

abbrev pub decreases-loop-next : goal.decreases-loop-next
decreases-loop-next g l = length (todo (entries (g.M.SortedMaps.maps l.maps l.index.number)) (place l.next))
