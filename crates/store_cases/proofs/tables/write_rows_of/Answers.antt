use mathlib.Core.Path.{refl}
use mathlib.Core.Logic.{inl}
use Rattle.table_store.specs.Lists.{map_at}
use Rattle.table_store.proofs.Staging.{hold_rows}
use Rattle.store_cases.proofs.tables.write_rows_of.Goals as goal

pub read-requires-after_bounds : goal.read-requires-after_bounds
read-requires-after_bounds c κs = inl (
  c.args.table.now,
  c.requires.table,
  hold_rows c.args.catalog.now c.requires.held.0 (map_at c.args.tables.now) c.args.table.now.number c.args.table.now c.requires.table refl c.requires.held.1,
)
