use Rattle.std.proofs.lemmas.Result.{IfOk-weaker}
use Rattle.data_store.proofs.Finding.{table_there, table_held}
use Rattle.data_store.proofs.store.DataStore.row.Goals as goal

pub row-requires-after_bounds : goal.row-requires-after_bounds
row-requires-after_bounds g c κs within =
    let store = c.args.self.now in
    table_there store.catalog (g.M.SortedMaps.maps store.tables) store.views c.requires.0 c.requires.1 c.number_law.ensures c.args.table c.requires.2

pub returns : goal.returns
returns g c =
    let store = c.args.self.now in
    IfOk-weaker c.row.result _ _ (λ row told contents held. told contents.rows (table_held store.catalog (g.M.SortedMaps.maps store.tables) store.views contents held c.number_law.ensures c.args.table)) c.row.ensures.row
