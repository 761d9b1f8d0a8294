use Rattle.std.proofs.Common.{◌<◌, Option, Some, sym, ap, subst, ◌∙◌}
use Rattle.std.proofs.lemmas.Bool.{true≢false}
use Rattle.table_laws.specs.Place.{Place}
use Rattle.txn_machine.specs.Ghosts.{IsCleanable}
use Rattle.core_upkeep.proofs.Candidates.{IsWalking, left, place_of, some_as, none_as, begins, goes_on}
use Rattle.core_upkeep.proofs.Cleanable.{is_candidate}
use Rattle.core_upkeep.proofs.cleaning.first_cleanable.Goals as goal

pub loop-next-init : goal.loop-next-init
loop-next-init g c = λ s h. begins c.args.core.now.store.views.candidates (IsCleanable s.store) (λ q can. is_candidate g.M.SortedMaps.maps g.M.SortedMaps.spare g.M.SortedMaps.limit c.args.core.now s h q can) (place_of c.first_candidate-next.result)
    (some_as _ c.first_candidate-next.result c.first_candidate-next.ensures.some) (none_as c.first_candidate-next.result c.first_candidate-next.ensures.none)

pub loop-next-smaller : goal.loop-next-smaller
loop-next-smaller g c =
    let s = c.requires.0 in
    let h = c.requires.1 in
    let places = c.args.core.now.store.views.candidates in
    let place : Place = (c.in-Some.view, c.in-Some.group.now) in
    let here : IsWalking places (Some place) (IsCleanable s.store) = subst (λ p. IsWalking places p (IsCleanable s.store)) (ap place_of c.in-Some.is) (c.loop-next.invariant s h) in
    let on = goes_on places (IsCleanable s.store) (λ q can. is_candidate g.M.SortedMaps.maps g.M.SortedMaps.spare g.M.SortedMaps.limit c.args.core.now s h q can) place (place_of c.next_candidate-next.result) here
    (λ can. true≢false (sym ((c.is_cleanable.ensures s h).1 can) ∙ c.if-is_cleanable.false))
    (some_as _ c.next_candidate-next.result c.next_candidate-next.ensures.some) (none_as c.next_candidate-next.result c.next_candidate-next.ensures.none) in
    subst (λ (p : Option Place). left places (place_of c.next_candidate-next.result) < left places p) (sym (ap place_of c.in-Some.is)) on.1

pub loop-next-preserved : goal.loop-next-preserved
loop-next-preserved g c = λ s h.
    let places = c.args.core.now.store.views.candidates in
    let place : Place = (c.in-Some.view, c.in-Some.group.now) in
    let here : IsWalking places (Some place) (IsCleanable s.store) = subst (λ p. IsWalking places p (IsCleanable s.store)) (ap place_of c.in-Some.is) (c.loop-next.invariant s h) in
    (goes_on places (IsCleanable s.store) (λ q can. is_candidate g.M.SortedMaps.maps g.M.SortedMaps.spare g.M.SortedMaps.limit c.args.core.now s h q can) place (place_of c.next_candidate-next.result) here
    (λ can. true≢false (sym ((c.is_cleanable.ensures s h).1 can) ∙ c.if-is_cleanable.false))
    (some_as _ c.next_candidate-next.result c.next_candidate-next.ensures.some) (none_as c.next_candidate-next.result c.next_candidate-next.ensures.none)).0
