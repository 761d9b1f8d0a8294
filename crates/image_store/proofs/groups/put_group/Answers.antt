use Rattle.std.proofs.Common.{◌≡◌, ◌*◌, ℕ, List, length, Some, sym, ap, subst, ◌∙◌, arith}
use Rattle.std.proofs.lemmas.Result.{on_ok_weaker}
use Rattle.iv_types.specs.Maps.{CanHold}
use Rattle.table_laws.specs.Place.{Place}
use Rattle.query_laws.specs.Limited.{IsLimited}
use Rattle.ghost_rows.specs.Ghosts.{IsCandidate}
use Rattle.ghost_rows.specs.Numbers.{numbers_bytes}
use Rattle.ghost_rows.specs.State.{StoresOnlyAt}
use Rattle.ghost_rows.proofs.NumberSteps.{length_numbers}
use Rattle.group_replay.proofs.Replacing.{numbers_held}
use Rattle.group_replay.proofs.Rows.{value_holds}
use Rattle.image_store.proofs.groups.put_group.Goals as goal

pub list_ghost-requires : goal.list_ghost-requires
list_ghost-requires g c =
    let q = c.requires.new in
    let long : length c.as_slice-2.result.now ≡ 16 * length q.1 = ap length (c.as_slice-2.ensures ∙ q.3) ∙ length_numbers q.1 in
    let wide = q.2.width in
    omega (arith, long, wide)

pub put_value-requires-clause-held : goal.put_value-requires-clause-held
put_value-requires-clause-held g c κs within =
    let q = c.requires.new in
    let place : Place = (c.args.view, c.args.group) in
    subst (λ (value : List ℕ). CanHold c.args.view c.args.group value) (sym q.3)
    (value_holds q.0.objects place (subst IsLimited q.2.held.objects c.requires.limited) q.2.group (numbers_bytes q.1) (length_numbers q.1 ∙ ap (λ (n : ℕ). 16 * n) q.2.width))

pub returns-clause-put : goal.returns-clause-put
returns-clause-put g c =
    let place : Place = (c.args.view, c.args.group) in
    let new = g.M.SortedMaps.maps c.put_value.new.maps in
    let after = c.list_ghost.new.views in
    on_ok_weaker c.put_value.result (λ there x numbers n bytes.
    numbers_held c.args.store.now.catalog (g.M.SortedMaps.maps c.args.store.now.tables) new c.args.store.now.views after place numbers x
    n.held n.group.of n.group.view_is n.width n.in_range n.unkept n.closed
    (there ∙ ap Some bytes)
    (subst (λ t. StoresOnlyAt place (g.M.SortedMaps.maps t) new) c.maps_mut.ensures.value c.put_value.ensures.others)
    c.list_ghost.ensures.rows
    (c.in_ok-list_ghost.ensures.others (g.M.SortedMaps.maps c.args.store.now.tables))
    (λ count sums fits same zero. subst (λ (k : List ℕ). IsCandidate after (c.args.view, k)) c.as_slice.ensures
    (c.in_ok-list_ghost.ensures.candidate count sums fits (c.as_slice-2.ensures ∙ (bytes ∙ same)) zero)))
    c.put_value.ensures.stored
