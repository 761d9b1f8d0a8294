use Rattle.std.proofs.Common.{refl, sym, ap, subst, ◌∙◌}
use Rattle.std.specs.Prelude.{IsSome}
use Rattle.std.specs.Option.{option_copied}
use Rattle.txn_machine.specs.Counts.{told_need}
use Rattle.txn_machine.specs.Log.{owed_bytes}
use Rattle.core_effects.proofs.Opened.{own}
use Rattle.core_pays.proofs.Latest.{change_owes, pay_owes}
use Rattle.core_pays.proofs.Reserving.{latest_change, latest_pay, still_as}
use Rattle.core_pays.proofs.Undone.{keeps_here}
use Rattle.core_pays.proofs.recording.owed_of_latest.Goals as goal
use Rattle.core_state.specs.Stands.{its_texts}

pub open_of-txn-requires-after_bounds : goal.open_of-txn-requires-after_bounds
open_of-txn-requires-after_bounds g c κs within =
    subst IsSome (sym (own g.M.SortedMaps.maps g.M.SortedMaps.spare g.M.SortedMaps.limit c.args.core.now c.requires.0.store c.requires.0.log (its_texts c.requires.0) c.args.session c.requires.1.holds c.requires.2.0).there) refl

pub returns-in-Some : goal.returns-in-Some
returns-in-Some g c = λ s h may.
    let core = c.args.core.now in
    let i = c.args.session in
    let txn = c.open_of-txn.result.now in
    let found = latest_change g.M.SortedMaps.maps g.M.SortedMaps.spare g.M.SortedMaps.limit core s i h txn c.open_of-txn.ensures (option_copied c.latest_change.result) c.latest_change.ensures c.in-Some._kept.now (ap option_copied c.in-Some.is)
    (keeps_here g.M.SortedMaps.maps g.M.SortedMaps.spare g.M.SortedMaps.limit core core s i h may) in
    change_owes g.M.SortedMaps.maps g.M.SortedMaps.spare g.M.SortedMaps.limit core s i h found.0 c.owed_records.result
    (c.owed_records.ensures ∙ ap told_need (still_as g.M.SortedMaps.maps g.M.SortedMaps.spare g.M.SortedMaps.limit core s i h txn c.open_of-txn.ensures found.0 owed_bytes))

pub returns-in-None : goal.returns-in-None
returns-in-None g c = λ s h may.
    let core = c.args.core.now in
    let i = c.args.session in
    pay_owes g.M.SortedMaps.maps g.M.SortedMaps.spare g.M.SortedMaps.limit core s i h
    (latest_pay g.M.SortedMaps.maps g.M.SortedMaps.spare g.M.SortedMaps.limit core s i h c.open_of-txn.result.now c.open_of-txn.ensures (option_copied c.latest_change.result) c.latest_change.ensures (ap option_copied c.in-None.is)
    (keeps_here g.M.SortedMaps.maps g.M.SortedMaps.spare g.M.SortedMaps.limit core core s i h may))
