use Rattle.std.proofs.Common.{subst}
use Rattle.std.proofs.lemmas.Result.{IfOk-weaker}
use Rattle.iv_types.specs.Maps.{Map}
use Rattle.iv_types.specs.declared.catalog.TableDef.{TableDef}
use Rattle.table_store.proofs.Fresh.{reads}
use Rattle.data_store.specs.Past.{WereRows, IsMapAt}
use Rattle.data_store.proofs.Were.{same_table, map_then, is_then, held_then, rows_then}
use Rattle.data_store.proofs.store.DataStore.rows_at.Goals as goal

pub rows_between_at-requires-clause-rows : goal.rows_between_at-requires-clause-rows
rows_between_at-requires-clause-rows g c κs within =
    let store = c.args.self.now in
    let versions = store.row_versions.versions in
    let pending = store.pending.entries in
    let maps = g.M.SortedMaps.maps store.tables in
    let t = c.table_of.result.now in
    let same = same_table store.catalog c.args.table c.requires.rows.0 t c.requires.rows.1 c.table_of.ensures.table in
    let were : WereRows c.args.number versions pending maps c.requires.rows.2.0 t = subst (λ (u : TableDef). WereRows c.args.number versions pending maps c.requires.rows.2.0 u) same c.requires.rows.2.1 in
    (map_then c.args.number versions pending maps c.requires.rows.2.0 t were, is_then c.args.number versions pending maps c.requires.rows.2.0 t were, rows_then c.args.number versions pending maps c.requires.rows.2.0 t were)

pub returns : goal.returns
returns g c =
    let store = c.args.self.now in
    let versions = store.row_versions.versions in
    let pending = store.pending.entries in
    let maps = g.M.SortedMaps.maps store.tables in
    let t = c.table_of.result.now in
    IfOk-weaker c.rows_between_at.result _ _ (λ rows told db schema of.
    let were : WereRows c.args.number versions pending maps db.rows t = of t c.table_of.ensures.table in
    let m : Map = map_then c.args.number versions pending maps db.rows t were in
    let is : IsMapAt c.args.number versions pending maps t.number m = is_then c.args.number versions pending maps db.rows t were in
    reads db store.catalog c.args.table t m c.args.interval.now rows c.row_law.ensures.spelling schema c.table_of.ensures.table (held_then c.args.number versions pending maps db.rows t were m is) (told m is)) c.rows_between_at.ensures
