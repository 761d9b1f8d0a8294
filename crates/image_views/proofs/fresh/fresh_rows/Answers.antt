use Rattle.std.proofs.Common.{rules, map, subst, Err}
use Rattle.std.specs.Option.{option_map}
use Rattle.row_eval.specs.Grouped.{Gives}
use Rattle.iv_meaning.specs.Objects.{view_tree}
use Rattle.iv_meaning.specs.View.{whole_view}
use Rattle.row_eval.specs.Fresh.{view_row}
use Rattle.data_defining.proofs.TableReads.{given}
use Rattle.image_views.proofs.Evaluated.{are_fresh}
use Rattle.image_views.proofs.Readable.{may_read, never_other, refused_range}
use Rattle.image_views.proofs.fresh.fresh_rows.Goals as goal

pub rows_of_view-requires-after_bounds : goal.rows_of_view-requires-after_bounds
rows_of_view-requires-after_bounds g c κs within =
    (c.requires.0, may_read c.args.store.now.catalog (g.M.SortedMaps.maps c.args.store.now.tables) c.args.store.now.views (view_tree c.args.view.now) c.requires.0 c.requires.1)

pub returns-in-Ok : goal.returns-in-Ok
returns-in-Ok g c = λ x can.
    let v = view_tree c.args.view.now in
    let told = given (map (view_row x.objects v)) (whole_view x.objects x.rows v) c.in-Ok.rows (c.in-Ok.ensures x (may_read c.args.store.now.catalog (g.M.SortedMaps.maps c.args.store.now.tables) c.args.store.now.views v x can)) in
    are_fresh x can.comparable.sound v can.is_there c.in-Ok.rows told.0 told.1 told.2

pub returns-in-Err-NumberRange : goal.returns-in-Err-NumberRange
returns-in-Err-NumberRange g c = λ x can.
    let v = view_tree c.args.view.now in
    refused_range x.objects x.rows v can.comparable.sound can.is_there (map (view_row x.objects v)) (subst (λ why. Gives (option_map (map (view_row x.objects v)) (whole_view x.objects x.rows v)) (Err why)) c.in-Err-NumberRange.field-0-is (c.in-Err-NumberRange.ensures x (may_read c.args.store.now.catalog (g.M.SortedMaps.maps c.args.store.now.tables) c.args.store.now.views v x can)))

pub unreachable-requires : goal.unreachable-requires
unreachable-requires g c =
    let x = c.requires.0 in
    let v = view_tree c.args.view.now in
    never_other (option_map (map (view_row x.objects v)) (whole_view x.objects x.rows v)) c.in-Err.field-0
    (c.in-Err.ensures x (may_read c.args.store.now.catalog (g.M.SortedMaps.maps c.args.store.now.tables) c.args.store.now.views v x c.requires.1)) (search rules) (search rules)
