use Rattle.data_defining.proofs.TableReads.{table_defined, rows_there}
use Rattle.data_defining.proofs.first.index_entries.Goals as goal

pub table_of-table-requires : goal.table_of-table-requires
table_of-table-requires g c =
    table_defined c.args.store.now.catalog (g.M.SortedMaps.maps c.args.store.now.tables) c.args.store.now.views c.requires.0 c.args.index.now c.requires.1

pub index_entries-requires-after_bounds : goal.index_entries-requires-after_bounds
index_entries-requires-after_bounds g c κs within =
    rows_there c.args.store.now.catalog (g.M.SortedMaps.maps c.args.store.now.tables) c.args.store.now.views c.requires.0 c.args.index.now c.requires.1 c.number_law.ensures c.table_of-table.result.now c.table_of-table.ensures.table c.table_of-table.ensures.number
