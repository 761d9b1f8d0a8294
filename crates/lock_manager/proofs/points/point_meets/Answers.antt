use Rattle.std.proofs.Common.{◌≡◌, ◌<◌, ℕ, List, length, Option, Some, true, false, refl, sym, ap, subst, ◌∙◌}
use Rattle.std.specs.FinMap.{entries}
use Rattle.table_laws.specs.Place.{Place}
use Rattle.spare_map.specs.Trees.{is_from}
use Rattle.lock_manager.specs.Order.{is_past}
use Rattle.lock_manager.proofs.Keys.{true_false}
use Rattle.lock_manager.proofs.Walks.{IsWalking, first_place, todo, place_of, walk_begins, walk_past, walk_on, met}
use Rattle.lock_manager.proofs.points.point_meets.Goals as goal

pub loop-next-init : goal.loop-next-init
loop-next-init c =
    let want = c.args.want.now in
    let m = c.args.points.now.entries in
    walk_begins want m (place_of c.first_at-next.result)
    (c.first_at-next.ensures ∙ ap (λ (low : List ℕ). first_place (is_from false (want.index, low)) (entries m)) c.as_slice.ensures)

pub returns-then-comes_past : goal.returns-then-comes_past
returns-then-comes_past c =
    let want = c.args.want.now in
    let m = c.args.points.now.entries in
    let place : Place = (c.in-Some.index, c.in-Some.low.now) in
    let here : IsWalking want m (Some place) = subst (IsWalking want m) (ap place_of c.in-Some.is) c.loop-next.invariant in
    let past : is_past c.in-Some.index c.in-Some.low.now want.index want.interval.high ≡ true = sym c.comes_past.ensures ∙ c.if-comes_past.true in
    (λ t. true_false (sym t), λ h. absurd (walk_past want m place here past h))

pub returns-then-meets_at : goal.returns-then-meets_at
returns-then-meets_at c =
    let place : Place = (c.in-Some.index, c.in-Some.low.now) in
    (λ t. met c.args.want.now c.args.points.now.entries place (c.meets_at.ensures.0 c.if-meets_at.true), λ h. refl)

pub loop-next-smaller : goal.loop-next-smaller
loop-next-smaller c =
    let want = c.args.want.now in
    let m = c.args.points.now.entries in
    let place : Place = (c.in-Some.index, c.in-Some.low.now) in
    let here : IsWalking want m (Some place) = subst (IsWalking want m) (ap place_of c.in-Some.is) c.loop-next.invariant in
    let on = walk_on want m place here (place_of c.first_after-next.result) c.first_after-next.ensures
    (λ h. let t : c.meets_at.result ≡ true = c.meets_at.ensures.1 h in true_false (sym t ∙ c.if-meets_at.false)) in
    subst (λ (p : Option Place). length (todo (entries m) (place_of c.first_after-next.result)) < length (todo (entries m) p)) (sym (ap place_of c.in-Some.is)) on.1

pub loop-next-preserved : goal.loop-next-preserved
loop-next-preserved c =
    let want = c.args.want.now in
    let m = c.args.points.now.entries in
    let place : Place = (c.in-Some.index, c.in-Some.low.now) in
    let here : IsWalking want m (Some place) = subst (IsWalking want m) (ap place_of c.in-Some.is) c.loop-next.invariant in
    (walk_on want m place here (place_of c.first_after-next.result) c.first_after-next.ensures
    (λ h. let t : c.meets_at.result ≡ true = c.meets_at.ensures.1 h in true_false (sym t ∙ c.if-meets_at.false))).0
