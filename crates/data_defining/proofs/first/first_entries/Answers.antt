use Rattle.std.proofs.Common.{◌≡◌, ◌⊎◌, map, Err, IfErr}
use Rattle.std.proofs.lemmas.Result.{err_from_is_err_and}
use mathlib.Core.Path.{sym, ap, subst, ◌∙◌}
use Rattle.iv_types.specs.declared.catalog.Definition.{Definition}
use Rattle.iv_types.specs.declared.refusal.Refusal.{Refusal}
use Rattle.iv_types.specs.declared.refusal.Refusal.TheVariants as refused
use Rattle.iv_meaning.specs.Database.{Database}
use Rattle.iv_meaning.specs.Objects.{object_of, view_tree}
use Rattle.iv_meaning.specs.Statement.{Refused, create_meaning}
use Rattle.iv_meaning.specs.View.{whole_view}
use Rattle.row_eval.specs.Fresh.{view_row}
use Rattle.row_eval.specs.Grouped.{Gives}
use Rattle.data_store.specs.Contents.{Contents}
use Rattle.data_defining.specs.Defining.{view_entry, AreFirst, CanEvaluate}
use Rattle.data_defining.proofs.TableReads.{may_read, given, view_refused}
use Rattle.data_defining.proofs.first.first_entries.Goals as goal

pub index_entries-requires-after_bounds : goal.index_entries-requires-after_bounds
index_entries-requires-after_bounds g c κs within =
    (c.requires.0, subst (λ (d : Definition). CanEvaluate c.args.store.now.catalog (g.M.SortedMaps.maps c.args.store.now.tables) c.args.store.now.views (object_of d) c.requires.0) c.in-Index.is c.requires.1)

pub rows_of_view-requires-after_bounds : goal.rows_of_view-requires-after_bounds
rows_of_view-requires-after_bounds g c κs within = (
  c.requires.0,
  may_read c.args.store.now.catalog (g.M.SortedMaps.maps c.args.store.now.tables) c.args.store.now.views c.requires.0 (view_tree c.in-View.view)
      (subst (λ (d : Definition). CanEvaluate c.args.store.now.catalog (g.M.SortedMaps.maps c.args.store.now.tables) c.args.store.now.views (object_of d) c.requires.0) c.in-View.is c.requires.1),
)

pub returns-in_ok-view_entries-in-View-clause-first : goal.returns-in_ok-view_entries-in-View-clause-first
returns-in_ok-view_entries-in-View-clause-first g c = λ x can.
    let v = view_tree c.in-View.view in
    let ds = c.args.store.now.catalog in
    let maps = g.M.SortedMaps.maps c.args.store.now.tables in
    let state = c.args.store.now.views in
    let here = subst (λ (d : Definition). CanEvaluate ds maps state (object_of d) x) c.in-View.is can in
    let told = given (map (view_row x.objects v)) (whole_view x.objects x.rows v) c.in_ok-rows-in-View.rows (c.in_ok-rows-in-View.ensures x (may_read ds maps state x v here)) in
    subst (λ (d : Definition). AreFirst ds maps x d c.in_ok-view_entries-in-View.field-0) (sym c.in-View.is)
    (record { rows = told.0; whole = told.1; entries = c.in_ok-view_entries-in-View.ensures ∙ ap (map (view_entry c.in-View.view.number)) told.2 })

pub returns-in_err-rows-in-View-clause-refused : goal.returns-in_err-rows-in-View-clause-refused
returns-in_err-rows-in-View-clause-refused g c =
    let p = err_from_is_err_and c.from_residual-in_err-rows-in-View.result c.from_residual-in_err-rows-in-View.ensures.1 in
    subst (λ r. IfErr r (λ why. (x : Contents) (db : Database) → CanEvaluate c.args.store.now.catalog (g.M.SortedMaps.maps c.args.store.now.tables) c.args.store.now.views (object_of c.args.definition.now) x
    → db.schema ≡ x.objects → db.rows ≡ x.rows → (why ≡ refused.NoMemory) ⊎ (create_meaning (object_of c.args.definition.now) db ≡ Refused why))) (sym p.1)
    (subst (λ (why : Refusal). (x : Contents) (db : Database) → CanEvaluate c.args.store.now.catalog (g.M.SortedMaps.maps c.args.store.now.tables) c.args.store.now.views (object_of c.args.definition.now) x
    → db.schema ≡ x.objects → db.rows ≡ x.rows → (why ≡ refused.NoMemory) ⊎ (create_meaning (object_of c.args.definition.now) db ≡ Refused why)) (sym p.2)
    (λ x db can objects rows.
    let why : Refusal = c.in_err-rows-in-View.field-0.0 in
    let v = view_tree c.in-View.view in
    let here = subst (λ (d : Definition). CanEvaluate c.args.store.now.catalog (g.M.SortedMaps.maps c.args.store.now.tables) c.args.store.now.views (object_of d) x) c.in-View.is can in
    let gives : Gives (Rattle.std.specs.Option.option_map (map (view_row x.objects v)) (whole_view x.objects x.rows v)) (Err why) = c.in_err-rows-in-View.ensures x (may_read c.args.store.now.catalog (g.M.SortedMaps.maps c.args.store.now.tables) c.args.store.now.views x v here) in
    subst (λ (d : Definition). (why ≡ refused.NoMemory) ⊎ (create_meaning (object_of d) db ≡ Refused why)) (sym c.in-View.is)
    (view_refused db v why (whole_view x.objects x.rows v) (map (view_row x.objects v)) (λ i. whole_view (objects i) (rows i) v) gives)))
