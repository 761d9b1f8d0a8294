use Rattle.std.proofs.Common.{◌≡◌, ◌-◌, ◌^◌, ℕ, List, None, Some, min, sym, ap, subst, ◌∙◌}
use Rattle.std.specs.Option.{option_or, option_and_then}
use Rattle.std.specs.FinMap.{entries}
use Rattle.iv_types.specs.declared.value.Value.{Value}
use Rattle.iv_types.specs.declared.catalog.TableDef.{TableDef}
use Rattle.iv_types.specs.declared.catalog.IndexDef.{IndexDef}
use Rattle.iv_types.specs.declared.catalog.Definition.{Definition}
use Rattle.iv_types.specs.Definitions.{Definitions, number_of}
use Rattle.iv_meaning.specs.Schema as schema
use Rattle.iv_meaning.specs.View.{read}
use Rattle.table_store.specs.Stored.{as_table, as_index, table_of, index_of, listed_table, Follow, between, noted_entries, noted_rows}
use Rattle.table_store.proofs.Rows.{some_same}
use Rattle.table_store.proofs.Fresh.{in_schema, noted_are}
use Rattle.table_store.proofs.IndexRows.{read_follows}
use Rattle.table_store.proofs.tables.Tables.noted_between.Goals as goal

-- the table whose number it is, and that of an index
by_table : (ds : Definitions) (n : ℕ) (u t : TableDef) → table_of ds n ≡ Some u → listed_table ds n ≡ Some t → u ≡ t
by_table ds n u t is listed = some_same u t (sym (ap (λ o. option_or o (option_and_then (λ (i : IndexDef). table_of ds i.table) (index_of ds n))) is) ∙ listed)

by_index : (ds : Definitions) (n : ℕ) (i : IndexDef) (u t : TableDef) → table_of ds n ≡ None → index_of ds n ≡ Some i → table_of ds i.table ≡ Some u → listed_table ds n ≡ Some t → u ≡ t
by_index ds n i u t none is table_is listed = some_same u t
    (sym (ap (λ o. option_or o (option_and_then (λ (j : IndexDef). table_of ds j.table) (index_of ds n))) none ∙ (ap (λ o. option_and_then (λ (j : IndexDef). table_of ds j.table) o) is ∙ table_is)) ∙ listed)

pub returns-in-Some-Table : goal.returns-in-Some-Table
returns-in-Some-Table g c = λ db t schema_is listed holds.
    let ds = c.args.catalog.now in
    let u = c.in-Some-Table.table in
    let maps = g.M.SortedMaps.maps in
    let interval = c.args.interval.now in
    let table_is : table_of ds c.args.index ≡ Some u = sym (ap as_table c.in-Some-Table.ensures.value) ∙ ap (λ (d : Definition). as_table (Some d)) c.in-Some-Table.field-0-is in
    let number : u.number ≡ c.args.index = sym (ap number_of c.in-Some-Table.field-0-is) ∙ c.in-Some-Table.ensures.number in
    let same = by_table ds c.args.index u t table_is listed in
    let object : schema.numbered db.schema c.args.index ≡ Some (schema.table u) = ap (λ s. schema.numbered s c.args.index) schema_is ∙ in_schema ds c.args.index u table_is in
    let told = noted_are db c.args.index u (maps c.args.self.now c.args.index) interval object (holds.primary u table_is) in
    c.noted_between.ensures
    ∙ (ap (λ s. min (noted_entries (between interval (entries (maps s u.number)))) (2 ^ 64 - 1)) c.self.view_is
    ∙ (ap (λ n. min (noted_entries (between interval (entries (maps c.args.self.now n)))) (2 ^ 64 - 1)) number
    ∙ (ap (λ k. min k (2 ^ 64 - 1)) told ∙ ap (λ (x : TableDef). min (noted_rows x (read db c.args.index interval)) (2 ^ 64 - 1)) same)))

pub returns-in-Some-Index : goal.returns-in-Some-Index
returns-in-Some-Index g c = λ db t schema_is listed holds.
    let ds = c.args.catalog.now in
    let i = c.in-Some-Index.index in
    let u = c.table_of.result.now in
    let maps = g.M.SortedMaps.maps in
    let interval = c.args.interval.now in
    let rows : List (List Value) = read db c.args.index interval in
    let index_is : index_of ds c.args.index ≡ Some i = sym (ap as_index c.in-Some-Index.ensures.value) ∙ ap (λ (d : Definition). as_index (Some d)) c.in-Some-Index.field-0-is in
    let none : table_of ds c.args.index ≡ None = sym (ap as_table c.in-Some-Index.ensures.value) ∙ ap (λ (d : Definition). as_table (Some d)) c.in-Some-Index.field-0-is in
    let number : i.number ≡ c.args.index = sym (ap number_of c.in-Some-Index.field-0-is) ∙ c.in-Some-Index.ensures.number in
    let same = by_index ds c.args.index i u t none index_is c.table_of.ensures.table listed in
    let held = holds.secondary i u index_is c.table_of.ensures.table in
    let follow = read_follows db ds c.args.index i u (maps c.args.self.now u.number) (maps c.args.self.now c.args.index) interval c.row_law.ensures.spelling c.key_law.ensures.spelling
    schema_is index_is c.table_of.ensures.table held.0 held.1 in
    let inside : Follow u i (maps c.self.inside.maps u.number) (between interval (entries (maps c.self.inside.maps i.number))) rows =
    subst (λ s. Follow u i (maps s u.number) (between interval (entries (maps s i.number))) rows) (sym c.self.view_is)
    (subst (λ (n : ℕ). Follow u i (maps c.args.self.now u.number) (between interval (entries (maps c.args.self.now n))) rows) (sym number) follow) in
    c.noted_by_index.ensures rows inside ∙ ap (λ (x : TableDef). min (noted_rows x rows) (2 ^ 64 - 1)) same
