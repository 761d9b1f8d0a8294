use Rattle.std.proofs.Common.{◌∙◌, sym, ap, subst}
use Rattle.std.specs.List.{AllByRecursion}
use Rattle.std.proofs.lemmas.Result.{on_ok_weaker}
use Rattle.iv_types.specs.declared.lock.Want.{Want}
use Rattle.iv_meaning.specs.Objects.{schema_of, view_tree}
use Rattle.table_store.specs.Stored.{CanRead}
use Rattle.table_store.proofs.Held.{hold_read}
use Rattle.txn_machine.specs.RowChanges.{row_change}
use Rattle.view_delta.specs.Parts.{FitOther, rows_read}
use Rattle.view_delta.proofs.Readable.{found_fit, can_look_up, looked_fit}
use Rattle.view_delta.proofs.all_views.add_owed_to.Goals as goal

pub needs-requires-clause-rows : goal.needs-requires-clause-rows
needs-requires-clause-rows g c = found_fit c.args.catalog.now (g.M.SortedMaps.maps c.args.tables.now) c.args.change.now c.requires.found.0 c.requires.found.1

pub looked_up-requires-after_bounds : goal.looked_up-requires-after_bounds
looked_up-requires-after_bounds g c κs within =
    let maps = g.M.SortedMaps.maps c.args.tables.now in
    subst (AllByRecursion (λ (w : Want). CanRead c.args.catalog.now maps w.index)) (sym (c.as_slice.ensures ∙ c.in_ok-wants.ensures))
    (can_look_up c.args.catalog.now maps c.requires.found.0 c.number_law.ensures c.requires.found.1.holds (view_tree c.args.view.now) (row_change c.args.change.now) c.requires.view)

pub add_deltas-requires-clause-rows : goal.add_deltas-requires-clause-rows
add_deltas-requires-clause-rows g c = found_fit c.args.catalog.now (g.M.SortedMaps.maps c.args.tables.now) c.args.change.now c.requires.found.0 c.requires.found.1

pub add_deltas-requires-clause-joined : goal.add_deltas-requires-clause-joined
add_deltas-requires-clause-joined g c =
    let o = schema_of c.args.catalog.now in
    let v = view_tree c.args.view.now in
    let r = row_change c.args.change.now in
    let maps = g.M.SortedMaps.maps c.args.tables.now in
    let rows = c.requires.found.0 in
    subst (FitOther o v c.args.change.now.table)
    (sym (c.in_ok-joined.ensures rows (hold_read c.args.catalog.now rows maps c.number_law.ensures c.requires.found.1.holds) ∙ ap (rows_read o rows) (c.as_slice.ensures ∙ c.in_ok-wants.ensures)))
    (looked_fit o v rows r c.requires.found.1.right c.requires.view)

pub returns : goal.returns
returns g c =
    let o = schema_of c.args.catalog.now in
    let maps = g.M.SortedMaps.maps c.args.tables.now in
    on_ok_weaker c.add_deltas.result (λ e rows f. e rows f.right
    (sym (c.in_ok-joined.ensures rows (hold_read c.args.catalog.now rows maps c.number_law.ensures f.holds) ∙ ap (rows_read o rows) (c.as_slice.ensures ∙ c.in_ok-wants.ensures)))) c.add_deltas.ensures.joined
