use Rattle.std.proofs.Common.{sym, subst, ◌∙◌}
use Rattle.std.proofs.lemmas.Result.{on_ok_weaker}
use Rattle.std.specs.FinMap.{insert}
use Rattle.table_laws.specs.Place.{Place}
use Rattle.iv_meaning.specs.Objects.{schema_of}
use Rattle.table_store.specs.Stored.{table_of}
use Rattle.table_store.proofs.Fresh.{in_schema}
use Rattle.ghost_rows.proofs.StateLemmas.{some_of}
use Rattle.data_store.specs.Held.{IsHeld}
use Rattle.image_store.specs.Filled.{IsFilled, contents_of, with_row}
use Rattle.image_store.proofs.Entries.{row_stands}
use Rattle.image_store.proofs.Taking.{new_row, row_filled}
use Rattle.image_store.proofs.fill.take_row.Goals as goal

pub put_row-requires-clause-new : goal.put_row-requires-clause-new
put_row-requires-clause-new g c κs within =
    let ds = c.args.store.now.catalog in
    let place : Place = (c.args.table, c.args.key) in
    let q = c.requires.new in
    let t = some_of (table_of ds c.args.table) c.requires.table in
    let told = c.in_ok-row.ensures t.0 t.1 in (
      contents_of q.1.pages,
      new_row ds (g.M.SortedMaps.maps c.args.store.now.tables) c.args.store.now.views q.0 place c.args.entry q.1 q.2 t.0 t.1 c.in_ok-row.row
          (row_stands (schema_of ds) place c.args.entry.value t.0 (in_schema ds c.args.table t.0 t.1) c.requires.stands) told.0 (sym c.as_slice.ensures ∙ told.1),
    )

pub returns-clause-filled : goal.returns-clause-filled
returns-clause-filled g c =
    let ds = c.args.store.now.catalog in
    let maps = g.M.SortedMaps.maps c.args.store.now.tables in
    let state = c.args.store.now.views in
    let place : Place = (c.args.table, c.args.key) in
    let t = some_of (table_of ds c.args.table) c.requires.table in
    let told = c.in_ok-row.ensures t.0 t.1 in
    let row = c.in_ok-row.row in
    let bytes = sym c.as_slice.ensures ∙ told.1 in
    let is = row_stands (schema_of ds) place c.args.entry.value t.0 (in_schema ds c.args.table t.0 t.1) c.requires.stands in
    on_ok_weaker c.put_row.result (λ put done filled free.
    let held = put (contents_of filled.pages) (new_row ds maps state done place c.args.entry filled free t.0 t.1 row is told.0 bytes) in
    subst (λ s. IsFilled (insert done place c.args.entry) s.catalog (g.M.SortedMaps.maps s.tables) s.views) (sym c.put_row.ensures.rest)
    (row_filled ds maps state done place c.args.entry filled free t.0 t.1 row is told.0 bytes (g.M.SortedMaps.maps c.put_row.new.store.tables)
    (subst (λ s. IsHeld s.catalog (g.M.SortedMaps.maps s.tables) s.views (with_row (contents_of filled.pages) place row)) c.put_row.ensures.rest held)))
    c.put_row.ensures.put
