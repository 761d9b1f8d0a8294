use Rattle.std.proofs.Common.{◌≡◌, ℕ, Some, sym, ap, subst, ◌∙◌}
use Rattle.std.specs.FinMap.{entries}
use Rattle.iv_types.specs.declared.catalog.Definition.{Definition}
use Rattle.iv_types.specs.Definitions.{number_of}
use Rattle.table_store.specs.Stored.{as_table, as_index, table_of, index_of, Decode, Follow, between}
use Rattle.table_store.proofs.Fresh.{reads}
use Rattle.table_store.proofs.IndexRows.{reads_by}
use Rattle.table_store.proofs.tables.Tables.read.Goals as goal

pub returns-in_ok-rows_between-in-Some-Table-clause-rows : goal.returns-in_ok-rows_between-in-Some-Table-clause-rows
returns-in_ok-rows_between-in-Some-Table-clause-rows g c = λ db schema holds.
    let ds = c.args.catalog.now in
    let t = c.in-Some-Table.table in
    let maps = g.M.SortedMaps.maps in
    let list = c.in_ok-rows_between-in-Some-Table.field-0.items in
    let table_is : table_of ds c.args.index ≡ Some t = sym (ap as_table c.in-Some-Table.ensures.value) ∙ ap (λ (d : Definition). as_table (Some d)) c.in-Some-Table.field-0-is in
    let number : t.number ≡ c.args.index = sym (ap number_of c.in-Some-Table.field-0-is) ∙ c.in-Some-Table.ensures.number in
    let told : Decode t (between c.args.interval.now (entries (maps c.args.self.now c.args.index))) list =
    subst (λ (n : ℕ). Decode t (between c.args.interval.now (entries (maps c.args.self.now n))) list) number
    (subst (λ s. Decode t (between c.args.interval.now (entries (maps s t.number))) list) c.self.view_is c.in_ok-rows_between-in-Some-Table.ensures) in
    reads db ds c.args.index t (maps c.args.self.now c.args.index) c.args.interval.now list c.row_law.ensures.spelling schema table_is (holds.primary t table_is) told ∙ sym c.from_vec.ensures

pub returns-in_ok-rows_by_index-in-Some-Index-clause-rows : goal.returns-in_ok-rows_by_index-in-Some-Index-clause-rows
returns-in_ok-rows_by_index-in-Some-Index-clause-rows g c = λ db schema holds.
    let ds = c.args.catalog.now in
    let i = c.in-Some-Index.index in
    let t = c.table_of-table.result.now in
    let maps = g.M.SortedMaps.maps in
    let list = c.in_ok-rows_by_index-in-Some-Index.field-0.items in
    let index_is : index_of ds c.args.index ≡ Some i = sym (ap as_index c.in-Some-Index.ensures.value) ∙ ap (λ (d : Definition). as_index (Some d)) c.in-Some-Index.field-0-is in
    let number : i.number ≡ c.args.index = sym (ap number_of c.in-Some-Index.field-0-is) ∙ c.in-Some-Index.ensures.number in
    let told : Follow t i (maps c.args.self.now t.number) (between c.args.interval.now (entries (maps c.args.self.now c.args.index))) list =
    subst (λ (n : ℕ). Follow t i (maps c.args.self.now t.number) (between c.args.interval.now (entries (maps c.args.self.now n))) list) number
    (subst (λ s. Follow t i (maps s t.number) (between c.args.interval.now (entries (maps s i.number))) list) c.self.view_is c.in_ok-rows_by_index-in-Some-Index.ensures) in
    let held = holds.secondary i t index_is c.table_of-table.ensures.table in
    reads_by db ds c.args.index i t (maps c.args.self.now t.number) (maps c.args.self.now c.args.index) c.args.interval.now list c.row_law.ensures.spelling c.key_law.ensures.spelling
    schema index_is c.table_of-table.ensures.table held.0 held.1 told ∙ sym c.from_vec-in-Some-Index.ensures
