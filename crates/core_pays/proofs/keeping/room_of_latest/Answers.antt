use Rattle.std.proofs.Common.{refl, sym, ap, subst, arith, ◌∙◌}
use Rattle.std.specs.Prelude.{IsSome}
use Rattle.std.specs.Option.{option_copied}
use Rattle.core_effects.proofs.Opened.{own}
use Rattle.core_pays.proofs.Reserving.{rows_fit_back, latest_change, no_change, latest_told}
use Rattle.core_pays.proofs.Undone.{keeps_here}
use Rattle.core_pays.proofs.keeping.room_of_latest.Goals as goal
use Rattle.core_state.specs.Stands.{its_texts}

pub open_of-txn-requires-after_bounds : goal.open_of-txn-requires-after_bounds
open_of-txn-requires-after_bounds g c κs within =
    subst IsSome (sym (own g.M.SortedMaps.maps g.M.SortedMaps.spare g.M.SortedMaps.limit c.args.core.now c.requires.0.store c.requires.0.log (its_texts c.requires.0) c.args.session c.requires.1.holds c.requires.2.0).there) refl

pub growth_back-requires-after_bounds : goal.growth_back-requires-after_bounds
growth_back-requires-after_bounds g c κs within =
    let core = c.args.core.now in
    let i = c.args.session in
    let s = c.requires.0 in
    let h = c.requires.1 in
    let found = latest_change g.M.SortedMaps.maps g.M.SortedMaps.spare g.M.SortedMaps.limit core s i h c.open_of-txn.result.now c.open_of-txn.ensures (option_copied c.latest_change.result) c.latest_change.ensures c.in-Some.kept.now (ap option_copied c.in-Some.is)
    (keeps_here g.M.SortedMaps.maps g.M.SortedMaps.spare g.M.SortedMaps.limit core core s i h c.requires.2) in
    rows_fit_back g.M.SortedMaps.maps g.M.SortedMaps.spare g.M.SortedMaps.limit core s i h found.0 c.in-Some.kept.now.change found.1

pub returns-in-Some : goal.returns-in-Some
returns-in-Some g c = λ s h may.
    let core = c.args.core.now in
    let i = c.args.session in
    let found = latest_change g.M.SortedMaps.maps g.M.SortedMaps.spare g.M.SortedMaps.limit core s i h c.open_of-txn.result.now c.open_of-txn.ensures (option_copied c.latest_change.result) c.latest_change.ensures c.in-Some.kept.now (ap option_copied c.in-Some.is)
    (keeps_here g.M.SortedMaps.maps g.M.SortedMaps.spare g.M.SortedMaps.limit core core s i h may) in
    c.saturating_add.ensures
    ∙ latest_told g.M.SortedMaps.maps g.M.SortedMaps.spare g.M.SortedMaps.limit core s i h c.open_of-txn.result.now c.open_of-txn.ensures found.0 c.in-Some.kept.now found.1 c.growth_back.result c.owed_room.result c.growth_back.ensures c.owed_room.ensures

pub returns-in-None : goal.returns-in-None
returns-in-None g c = λ s h may.
    let core = c.args.core.now in
    let i = c.args.session in
    let none = no_change g.M.SortedMaps.maps g.M.SortedMaps.spare g.M.SortedMaps.limit core s i h c.open_of-txn.result.now c.open_of-txn.ensures (option_copied c.latest_change.result) c.latest_change.ensures (ap option_copied c.in-None.is)
    (keeps_here g.M.SortedMaps.maps g.M.SortedMaps.spare g.M.SortedMaps.limit core core s i h may) in
    omega (arith, none)
