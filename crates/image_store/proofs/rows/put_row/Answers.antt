use Rattle.image_store.proofs.Putting.{is_change, row_held}
use Rattle.image_store.proofs.rows.put_row.Goals as goal

pub change-requires-clause-change : goal.change-requires-clause-change
change-requires-clause-change g c κs within =
    let q = c.requires.new in
    is_change c.args.store.now.catalog (g.M.SortedMaps.maps c.args.store.now.tables) c.args.store.now.views c.args.table c.args.key c.args.row q.0 q.1 c.number_law.ensures
    c.requires.limited (g.M.SortedMaps.limit c.args.store.now.tables) c.requires.limit

pub returns-clause-put : goal.returns-clause-put
returns-clause-put g c = λ x n.
    row_held c.args.store.now.catalog (g.M.SortedMaps.maps c.args.store.now.tables) c.args.store.now.views c.args.table c.args.key c.args.row x n c.number_law.ensures
    (g.M.SortedMaps.maps c.change.new.self) c.in_ok-kept.ensures.rows (c.in_ok-kept.ensures.set n.of n.table_is)
