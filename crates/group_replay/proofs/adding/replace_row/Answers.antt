use Rattle.std.proofs.Common.{◌≡◌, ◌*◌, ℕ, List, length, Some, ap, subst, ◌∙◌, arith}
use Rattle.table_laws.specs.Place.{Place}
use Rattle.iv_meaning.specs.Objects.{schema_of}
use Rattle.ghost_rows.specs.State.{stored_at, StoresOnlyAt}
use Rattle.ghost_rows.proofs.NumberSteps.{length_numbers}
use Rattle.group_replay.proofs.Rows.{value_holds}
use Rattle.group_replay.proofs.Replacing.{replaced_closed}
use Rattle.group_replay.proofs.adding.replace_row.Goals as goal

pub list_ghost-requires : goal.list_ghost-requires
list_ghost-requires g c =
    let q = c.requires.row in
    let long : length c.as_slice.result.now ≡ 16 * length q.1 = ap length (c.as_slice.ensures ∙ q.3) ∙ length_numbers q.1 in
    let wide = q.2.width in
    omega (arith, long, wide)

pub replace_value-requires-clause-held : goal.replace_value-requires-clause-held
replace_value-requires-clause-held g c κs within =
    let q = c.requires.row in
    let place : Place = (c.args.view, c.args.group.now) in
    value_holds (schema_of c.args.store.now.catalog) place c.requires.limited q.2.group c.args.value (ap length q.3 ∙ (length_numbers q.1 ∙ ap (λ (n : ℕ). 16 * n) q.2.width))

pub returns-clause-replaced : goal.returns-clause-replaced
returns-clause-replaced g c = λ x numbers n bytes.
    let place : Place = (c.args.view, c.args.group.now) in
    let new = g.M.SortedMaps.maps c.replace_value.new.maps in
    let after = c.list_ghost.new.views in
    replaced_closed c.args.store.now.catalog (g.M.SortedMaps.maps c.args.store.now.tables) new c.args.store.now.views after place numbers x n
    (subst (λ (b : List ℕ). stored_at new place ≡ Some b) bytes c.replace_value.ensures.stored)
    (subst (λ t. StoresOnlyAt place (g.M.SortedMaps.maps t) new) c.maps_mut.ensures.value c.replace_value.ensures.others)
    c.list_ghost.ensures.rows
    (c.in_ok-list_ghost.ensures.others (g.M.SortedMaps.maps c.args.store.now.tables))
    (λ count sums fits same zero. c.in_ok-list_ghost.ensures.candidate count sums fits (c.as_slice.ensures ∙ (bytes ∙ same)) zero)
