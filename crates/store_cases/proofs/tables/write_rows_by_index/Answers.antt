use mathlib.Core.Path.{sym, ap, ◌∙◌}
use mathlib.Core.Logic.{inr}
use Rattle.std.specs.Prelude.{◌≡◌, Some}
use Rattle.std.specs.FinMap.{get}
use Rattle.table_store.specs.Lists.{map_at}
use Rattle.table_store.specs.Stored.{stored, table_of, AreEntries}
use Rattle.store_cases.proofs.tables.write_rows_by_index.Goals as goal

pub read-requires-after_bounds : goal.read-requires-after_bounds
read-requires-after_bounds c κs =
    let t = c.args.table.now in
    let i = c.args.index.now in
    let ds = c.args.catalog.now in
    let maps = map_at c.args.tables.now in
    let held = c.requires.held.1 t c.requires.table in
    let of_table : table_of ds i.table ≡ Some t = ap (table_of ds) c.requires.index.of_table ∙ c.requires.table in
    let are : AreEntries t i (maps t.number) (maps i.number) = λ at value there.
    let o = (held.others i c.requires.index).only at value there in
    let found = held.primary.fitting o.key o.row o.is_there in
    (o.row, record { fits = found.0; at_is = o.at_is; stands = ap (get (maps t.number)) (sym found.1) ∙ (held.primary.same o.key ∙ ap (stored t) o.is_there) }) in
    inr (i, c.requires.index.is, (t, of_table, are))
