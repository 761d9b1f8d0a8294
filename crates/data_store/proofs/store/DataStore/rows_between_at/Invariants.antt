use Rattle.std.proofs.Common.{List, ◌++◌}
use Rattle.std.specs.FinMap.{entries}
use Rattle.iv_types.specs.Maps.{Map}
use Rattle.iv_meaning.specs.Database.{Row}
use Rattle.table_store.specs.Stored.{Decode, between}
use Rattle.table_store.proofs.Walks.{rest_from, from, low_part}
use Rattle.data_store.specs.Past.{IsMapAt}
use Rattle.data_store.proofs.Merging.{so_many, all_keys}
use Rattle.data_store.proofs.store.DataStore.rows_between_at.Given as goal

abbrev pub invariant-loop-key : goal.invariant-loop-key
invariant-loop-key g l =
    (m : Map) → IsMapAt l.number l.self.row_versions.versions l.self.pending.entries (g.M.SortedMaps.maps l.self.tables) l.table.number m
    → (rest : List Row) → Decode l.table (low_part l.interval.high (rest_from (from l.from) (entries m))) rest → Decode l.table (between l.interval (entries m)) (l.rows ++ rest)

abbrev pub decreases-loop-key : goal.decreases-loop-key
decreases-loop-key g l = so_many (from l.from) (all_keys l.self.row_versions.versions l.self.pending.entries (g.M.SortedMaps.maps l.self.tables l.table.number))
