use Rattle.std.proofs.Common.{ap, ◌∙◌}
use Rattle.std.proofs.lemmas.Result.{IfOk-weaker}
use Rattle.iv_meaning.specs.Schema.{Schema}
use Rattle.txn_machine.specs.Deltas as machine
use Rattle.txn_machine.specs.RowChanges.{row_change}
use Rattle.data_store.proofs.Finding.{finds}
use Rattle.data_store.proofs.store.DataStore.owed.Goals as goal

pub owed-requires-after_bounds : goal.owed-requires-after_bounds
owed-requires-after_bounds g c κs within =
    let store = c.args.self.now in
    (c.requires.contents.rows, finds store.catalog (g.M.SortedMaps.maps store.tables) store.views c.requires.contents c.requires.held c.args.change.now c.requires.right)

pub returns : goal.returns
returns g c =
    let store = c.args.self.now in
    let change = c.args.change.now in
    IfOk-weaker c.owed.result _ _ (λ deltas told contents held right.
    told contents.rows (finds store.catalog (g.M.SortedMaps.maps store.tables) store.views contents held change right)
    ∙ ap (λ (o : Schema). machine.owed o contents.rows (row_change change)) held.objects) c.owed.ensures
