use Rattle.std.proofs.Common.{List, map, subst}
use Rattle.std.specs.Option.{option_map}
use Rattle.iv_meaning.specs.Database.{Row, rows_of}
use Rattle.iv_meaning.specs.Objects.{schema_of, view_tree}
use Rattle.iv_meaning.specs.Query.{answer}
use Rattle.iv_meaning.specs.Schema.{sources_of}
use Rattle.iv_meaning.specs.View.{query_of}
use Rattle.row_eval.specs.Fresh.{view_row}
use Rattle.row_eval.specs.Grouped.{Gives}
use Rattle.data_defining.proofs.TableReads.{its_tables, can_recompute}
use Rattle.data_defining.proofs.first.rows_of_view.Goals as goal

pub rows_of_tables-requires-after_bounds : goal.rows_of_tables-requires-after_bounds
rows_of_tables-requires-after_bounds g c κs within =
    (c.requires.0, c.requires.1.readable, its_tables c.args.store.now.catalog (g.M.SortedMaps.maps c.args.store.now.tables) c.args.store.now.views c.requires.0 (view_tree c.args.view.now) c.requires.1)

pub kept_rows-requires : goal.kept_rows-requires
kept_rows-requires g c =
    can_recompute c.args.store.now.catalog (g.M.SortedMaps.maps c.args.store.now.tables) c.args.store.now.views c.requires.0 (view_tree c.args.view.now) c.requires.1 c.in_ok-tables.tables
    (c.in_ok-tables.ensures c.requires.0 c.requires.1.readable c.requires.1.sound)

pub returns : goal.returns
returns g c = λ x can.
    let v = view_tree c.args.view.now in
    let ds = c.args.store.now.catalog in
    subst (λ os. Gives (option_map (map (view_row os v)) (answer (query_of os v) (map (rows_of x.rows) (sources_of v)))) c.kept_rows.result) can.readable.held.objects
    (subst (λ (l : List (List Row)). Gives (option_map (map (view_row (schema_of ds) v)) (answer (query_of (schema_of ds) v) l)) c.kept_rows.result) (c.in_ok-tables.ensures x can.readable can.sound) c.kept_rows.ensures)
