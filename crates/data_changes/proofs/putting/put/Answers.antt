use Rattle.std.proofs.Common.{refl, ◌∷◌}
use Rattle.txn_machine.specs.Locks.{with_one}
use Rattle.txn_machine.specs.Keeping.{Put}
use Rattle.txn_machine.specs.RowChanges.{row_change}
use Rattle.table_laws.specs.Table.{write}
use Rattle.data_changes.proofs.Frames.{rows_changed, views_stay, unused_stay, pays_else}
use Rattle.data_changes.proofs.putting.put.Goals as goal

pub returns-clause-held : goal.returns-clause-held
returns-clause-held g c = λ x session owed held.
    let change = row_change c.args.ready.kept.change in
    rows_changed c.args.store.now.catalog (g.M.SortedMaps.maps c.args.store.now.tables) (g.M.SortedMaps.maps c.apply.new.self) c.args.store.now.views x (write x.rows change.key change.after) (with_one x.kept session (Put change owed ∷ x.kept session))
    held (c.apply.ensures.rows x.rows held.tables)
    (views_stay c.args.store.now.catalog (g.M.SortedMaps.maps c.args.store.now.tables) (g.M.SortedMaps.maps c.apply.new.self) c.args.ready.kept.change.table c.args.ready.kept.change.key _ _ c.requires.0 c.number_law.ensures c.requires.1
    (c.apply.ensures.set c.requires.0 c.requires.1) x.objects held.objects)
    (unused_stay c.args.store.now.catalog (g.M.SortedMaps.maps c.args.store.now.tables) (g.M.SortedMaps.maps c.apply.new.self) c.args.ready.kept.change.table c.args.ready.kept.change.key _ _ c.requires.0 c.number_law.ensures c.requires.1
    (c.apply.ensures.set c.requires.0 c.requires.1) x.objects held.objects)
    (λ q s. pays_else q x.kept session (Put change owed ∷ x.kept session) refl s)
