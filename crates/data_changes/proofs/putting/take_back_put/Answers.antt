use Rattle.std.proofs.Common.{sym, ap}
use Rattle.txn_machine.specs.Locks.{with_one}
use Rattle.txn_machine.specs.RowChanges.{row_change}
use Rattle.table_laws.specs.Table.{write}
use Rattle.data_store.specs.Contents.{pays_on}
use Rattle.data_changes.proofs.Frames.{rows_changed, views_stay, unused_stay, pays_else}
use Rattle.data_changes.proofs.putting.take_back_put.Goals as goal

pub returns-clause-held : goal.returns-clause-held
returns-clause-held g c = λ x session owed ks held latest.
    let change = row_change c.args.kept.change in
    rows_changed c.args.store.now.catalog (g.M.SortedMaps.maps c.args.store.now.tables) (g.M.SortedMaps.maps c.take_back.new.self) c.args.store.now.views x (write x.rows change.key change.before) (with_one x.kept session ks)
    held (c.take_back.ensures.rows x.rows held.tables)
    (views_stay c.args.store.now.catalog (g.M.SortedMaps.maps c.args.store.now.tables) (g.M.SortedMaps.maps c.take_back.new.self) c.args.kept.change.table c.args.kept.change.key _ _ c.requires.0 c.number_law.ensures c.requires.1
    (c.take_back.ensures.set c.requires.0 c.requires.1) x.objects held.objects)
    (unused_stay c.args.store.now.catalog (g.M.SortedMaps.maps c.args.store.now.tables) (g.M.SortedMaps.maps c.take_back.new.self) c.args.kept.change.table c.args.kept.change.key _ _ c.requires.0 c.number_law.ensures c.requires.1
    (c.take_back.ensures.set c.requires.0 c.requires.1) x.objects held.objects)
    (λ q s. pays_else q x.kept session ks (sym (ap (pays_on q) latest)) s)
