use Rattle.std.proofs.Common.{◌≡◌, ℕ, List, Some, None, sym, ap, subst, ◌∙◌}
use Rattle.std.specs.FinMap.{get}
use Rattle.iv_types.specs.declared.catalog.TableDef.{TableDef}
use Rattle.iv_types.specs.Encoding.{kinds_of, row_bytes}
use Rattle.iv_meaning.specs.Database.{Row}
use Rattle.data_store.specs.Past.{value_at, WereRows}
use Rattle.data_store.proofs.Were.{same_table, row_there, row_is}
use Rattle.data_store.proofs.store.DataStore.row_at.Goals as goal

pub row_of-requires : goal.row_of-requires
row_of-requires g c =
    let store = c.args.self.now in
    let versions = store.row_versions.versions in
    let pending = store.pending.entries in
    let maps = g.M.SortedMaps.maps store.tables in
    let key : List ℕ = c.args.key.now in
    let t = c.table_of-definition.result.now in
    let same = same_table store.catalog c.args.table c.requires.rows.0 t c.requires.rows.1 c.table_of-definition.ensures.table in
    let were : WereRows c.args.number versions pending maps c.requires.rows.2.0 t = subst (λ (u : TableDef). WereRows c.args.number versions pending maps c.requires.rows.2.0 u) same c.requires.rows.2.1 in
    let here : value_at c.args.number versions pending maps (t.number, key) ≡ Some c.in-Some.bytes =
    ap (λ (n : ℕ). value_at c.args.number versions pending maps (n, key)) c.table_of-definition.ensures.number ∙ (sym c.in_ok-bytes.ensures ∙ c.in-Some.is) in
    let found = row_there c.args.number versions pending maps c.requires.rows.2.0 t were key c.in-Some.bytes here in
    (found.0, found.1, c.as_slice.ensures ∙ found.2)

pub returns-in_ok-row_of-in-Some : goal.returns-in_ok-row_of-in-Some
returns-in_ok-row_of-in-Some g c = λ rows told.
    let store = c.args.self.now in
    let versions = store.row_versions.versions in
    let pending = store.pending.entries in
    let maps = g.M.SortedMaps.maps store.tables in
    let key : List ℕ = c.args.key.now in
    let t = c.table_of-definition.result.now in
    let row : Row = c.in_ok-row_of-in-Some.field-0 in
    let here : value_at c.args.number versions pending maps (t.number, key) ≡ Some (row_bytes (kinds_of t) row) =
    ap (λ (n : ℕ). value_at c.args.number versions pending maps (n, key)) c.table_of-definition.ensures.number
    ∙ (sym c.in_ok-bytes.ensures ∙ (c.in-Some.is ∙ ap (λ (b : List ℕ). Some b) (sym c.as_slice.ensures ∙ c.in_ok-row_of-in-Some.ensures.1))) in
    ap (λ (n : ℕ). get rows (n, key)) (sym c.table_of-definition.ensures.number)
    ∙ row_is c.args.number versions pending maps rows t (told t c.table_of-definition.ensures.table) c.row_law.ensures.spelling key (Some row) c.in_ok-row_of-in-Some.ensures.0 here

pub returns-in-None : goal.returns-in-None
returns-in-None g c = λ rows told.
    let store = c.args.self.now in
    let versions = store.row_versions.versions in
    let pending = store.pending.entries in
    let maps = g.M.SortedMaps.maps store.tables in
    let key : List ℕ = c.args.key.now in
    let t = c.table_of-definition.result.now in
    let here : value_at c.args.number versions pending maps (t.number, key) ≡ None =
    ap (λ (n : ℕ). value_at c.args.number versions pending maps (n, key)) c.table_of-definition.ensures.number ∙ (sym c.in_ok-bytes.ensures ∙ c.in-None.is) in
    ap (λ (n : ℕ). get rows (n, key)) (sym c.table_of-definition.ensures.number)
    ∙ row_is c.args.number versions pending maps rows t (told t c.table_of-definition.ensures.table) c.row_law.ensures.spelling key None tt here
