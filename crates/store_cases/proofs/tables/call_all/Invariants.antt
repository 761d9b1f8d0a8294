use Rattle.iv_meaning.specs.Database.{Rows}
use Rattle.table_store.specs.Lists.{map_at}
use Rattle.table_store.specs.Stored.{Holds}
use Rattle.store_cases.proofs.tables.call_all.Given as goal

abbrev pub invariant-loop-asked : goal.invariant-loop-asked
invariant-loop-asked l = (rows : Rows) × Holds l.catalog rows (map_at l.tables)
