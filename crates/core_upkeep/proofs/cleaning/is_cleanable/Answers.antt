use Rattle.std.proofs.Common.{◌≡◌, false, None, sym, subst, ◌∙◌}
use Rattle.std.proofs.lemmas.Bool.{true≢false}
use Rattle.std.specs.Prelude.{suc, not, length}
use Rattle.ghost_rows.specs.State.{stored_at, AreKept}
use Rattle.table_laws.specs.Place.{Place}
use Rattle.core_upkeep.proofs.Cleanable.{IsExact, its_pays, kept_here, is_of_view, of_number, locked_as, versions_as, may_remove, is_removed}
use Rattle.core_upkeep.proofs.cleaning.is_cleanable.Goals as goal

pub returns-then-not-is_view : goal.returns-then-not-is_view
returns-then-not-is_view g c = λ s h. (
  λ t. absurd (true≢false (sym t)),
  λ can. absurd (true≢false (sym (c.is_view.ensures.1 (is_of_view g.M.SortedMaps.maps g.M.SortedMaps.spare g.M.SortedMaps.limit c.args.core.now s h (c.args.view, c.args.group.now) can)) ∙ c.if-not-is_view.true)),
)

pub cleanable-requires-after_bounds : goal.cleanable-requires-after_bounds
cleanable-requires-after_bounds g c κs within =
    let core = c.args.core.now in
    let s = c.requires.0 in
    let h = c.requires.1 in
    let place : Place = (c.args.view, c.args.group.now) in
    let u = of_number g.M.SortedMaps.maps g.M.SortedMaps.spare g.M.SortedMaps.limit core s h place (c.is_view.ensures.0 c.if-not-is_view.false) in (
      length u.0.sums,
      its_pays g.M.SortedMaps.maps g.M.SortedMaps.spare g.M.SortedMaps.limit core s h place,
      subst (λ m. AreKept core.store.views (g.M.SortedMaps.maps m) place (suc (length u.0.sums)) (its_pays g.M.SortedMaps.maps g.M.SortedMaps.spare g.M.SortedMaps.limit core s h place)) (sym c.maps.ensures) (kept_here g.M.SortedMaps.maps g.M.SortedMaps.spare g.M.SortedMaps.limit core s h place u.0 u.1),
    )

pub returns : goal.returns
returns g c = λ s h.
    let core = c.args.core.now in
    let place : Place = (c.args.view, c.args.group.now) in
    let u = of_number g.M.SortedMaps.maps g.M.SortedMaps.spare g.M.SortedMaps.limit core s h place (c.is_view.ensures.0 c.if-not-is_view.false) in
    let absent = subst (λ m. stored_at (g.M.SortedMaps.maps m) place ≡ None → c.cleanable.result ≡ false) c.maps.ensures c.cleanable.ensures.absent in
    let exact = subst (λ m. IsExact core.store.views (g.M.SortedMaps.maps m) place (not c.is_unlocked-is_locked.result) (not c.is_empty-has_versions.result) c.cleanable.result) c.maps.ensures c.cleanable.ensures.exact in
    let locked = locked_as c.is_unlocked-is_locked.result _ c.is_unlocked-is_locked.ensures in
    let versions = versions_as c.is_empty-has_versions.result _ c.is_empty-has_versions.ensures in (
      may_remove g.M.SortedMaps.maps g.M.SortedMaps.spare g.M.SortedMaps.limit core s h place u.0 u.1 _ _ c.cleanable.result locked versions absent c.cleanable.ensures.only exact,
      is_removed g.M.SortedMaps.maps g.M.SortedMaps.spare g.M.SortedMaps.limit core s h place u.0 u.1 _ _ c.cleanable.result locked versions absent c.cleanable.ensures.only exact,
    )
