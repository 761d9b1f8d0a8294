use Rattle.std.proofs.Common.{suc, subst}
use Rattle.std.proofs.lemmas.Result.{IfOk-weaker}
use Rattle.iv_meaning.specs.Objects.{view_tree}
use Rattle.image_views.specs.Compared.{IsFoundBelow}
use Rattle.image_views.proofs.Places.{own_number, evaluable, unseen_view, found_more}
use Rattle.image_views.proofs.check.with_object.Goals as goal

pub with_view-requires-after_bounds : goal.with_view-requires-after_bounds
with_view-requires-after_bounds g c κs within =
    (c.requires.0, evaluable c.args.store.now.catalog (g.M.SortedMaps.maps c.args.store.now.tables) c.args.store.now.views c.requires.0 c.requires.1 c.args.number (view_tree c.in-Some.view.now) c.in-Some.ensures.some)

pub returns-in-Some : goal.returns-in-Some
returns-in-Some g c = IfOk-weaker c.with_view.result _ _ (λ after h x can below.
    let ds = c.args.store.now.catalog in
    let maps = g.M.SortedMaps.maps c.args.store.now.tables in
    let state = c.args.store.now.views in
    let v = view_tree c.in-Some.view.now in
    subst (λ k. IsFoundBelow x k c.args.found → IsFoundBelow x (suc k) after) (own_number ds maps state x can c.args.number v c.in-Some.ensures.some)
    (h x (evaluable ds maps state x can c.args.number v c.in-Some.ensures.some)) below) c.with_view.ensures

pub returns-in-None : goal.returns-in-None
returns-in-None g c = λ x can h.
    let ds = c.args.store.now.catalog in
    let maps = g.M.SortedMaps.maps c.args.store.now.tables in
    let state = c.args.store.now.views in
    found_more ds maps state x can c.args.number (unseen_view ds maps state x can c.args.number c.in-None.ensures.none) c.args.found h
