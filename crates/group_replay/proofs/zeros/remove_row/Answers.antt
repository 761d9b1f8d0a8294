use Rattle.std.proofs.Common.{rules, None}
use Rattle.std.specs.Prelude.{IsTrue}
use Rattle.table_laws.specs.Place.{Place}
use Rattle.table_laws.specs.Table.{write}
use Rattle.group_replay.proofs.Rows.{has_ghost, still_closed}
use Rattle.group_replay.proofs.zeros.remove_row.Goals as goal

pub remove_ghost-requires-clause-held : goal.remove_ghost-requires-clause-held
remove_ghost-requires-clause-held g c κs within =
    let s = c.args.store.now in
    let place : Place = (c.args.view, c.args.group.now) in
    let q = c.requires.closed in
    let told : IsTrue c.has_zeros.result = search rules in
    (q.0, has_ghost s.catalog (g.M.SortedMaps.maps s.tables) s.views place c.requires.group q.0 q.1 ((c.has_zeros.ensures q.0 q.1).0 told))

pub returns-clause-removed : goal.returns-clause-removed
returns-clause-removed g c = λ t x k.
    let s = c.args.store.now in
    let new = c.remove_ghost.new.store in
    let place : Place = (c.args.view, c.args.group.now) in
    let told : IsTrue c.has_zeros.result = search rules in
    still_closed s.catalog (g.M.SortedMaps.maps s.tables) s.views place c.requires.group x k new.catalog (g.M.SortedMaps.maps new.tables) new.views (write x.view place None) c.remove_ghost.ensures.rows
    (c.remove_ghost.ensures.removed x (has_ghost s.catalog (g.M.SortedMaps.maps s.tables) s.views place c.requires.group x k ((c.has_zeros.ensures x k).0 told)))
