use Rattle.std.proofs.Common.{◌≡◌, Some, sym, ap, ◌∙◌}
use Rattle.std.specs.Prelude.{Option}
use Rattle.std.proofs.lemmas.Result.{IfOk-weaker}
use Rattle.iv_meaning.specs.Schema.{Schema, Object, table, numbered}
use Rattle.iv_meaning.specs.Objects.{schema_of}
use Rattle.table_store.proofs.Fresh.{in_schema}
use Rattle.txn_machine.specs.Steps.{put_wants}
use Rattle.txn_machine.specs.RowChanges.{row_change}
use Rattle.data_store.proofs.Finding.{finds, is_some_table}
use Rattle.view_delta.proofs.Readable.{found_fit}
use Rattle.data_store.proofs.store.DataStore.put_wants.Goals as goal

pub table_of-table-requires : goal.table_of-table-requires
table_of-table-requires g c =
    let store = c.args.self.now in
    is_some_table store.catalog (g.M.SortedMaps.maps store.tables) store.views c.requires.contents c.requires.held c.args.change.now.table c.requires.of_table

pub wants_of-requires-clause-table : goal.wants_of-requires-clause-table
wants_of-requires-clause-table g c = in_schema c.args.self.now.catalog c.args.change.now.table c.table_of-table.result.now c.table_of-table.ensures.table

pub wants_of-requires-clause-rows : goal.wants_of-requires-clause-rows
wants_of-requires-clause-rows g c =
    let store = c.args.self.now in
    found_fit store.catalog (g.M.SortedMaps.maps store.tables) c.args.change.now c.requires.contents.rows
    (finds store.catalog (g.M.SortedMaps.maps store.tables) store.views c.requires.contents c.requires.held c.args.change.now c.requires.right)

pub returns : goal.returns
returns g c =
    let ds = c.args.self.now.catalog in
    let change = c.args.change.now in
    let there : numbered (schema_of ds) change.table ≡ Some (table c.table_of-table.result.now) = in_schema ds change.table c.table_of-table.result.now c.table_of-table.ensures.table in
    IfOk-weaker c.wants_of.result _ _ (λ wants is contents held.
    is ∙ (ap (λ (o : Option Object). put_wants (schema_of ds) o (row_change change)) (sym there)
    ∙ ap (λ (s : Schema). put_wants s (numbered s change.table) (row_change change)) held.objects)) c.wants_of.ensures
