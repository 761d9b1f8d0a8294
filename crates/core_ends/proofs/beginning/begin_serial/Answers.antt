use Rattle.std.proofs.Common.{arith}
use Rattle.std.proofs.lemmas.Result.{IfOk-weaker}
use Rattle.txn_machine.specs.Log.{end_bytes}
use Rattle.core_state.proofs.Logged.{log_fits}
use Rattle.core_ends.proofs.Begins.{log_full_told}
use Rattle.core_ends.proofs.beginning.begin_serial.Goals as goal

pub begin_logged-requires-after_bounds : goal.begin_logged-requires-after_bounds
begin_logged-requires-after_bounds g c κs within =
    let s = c.requires.0 in
    let h = c.requires.1 in
    (s, h, c.requires.2, log_fits g.M.SortedMaps.maps g.M.SortedMaps.spare g.M.SortedMaps.limit c.args.core.now s c.args.session h end_bytes end_bytes (omega arith) (c.in-None.ensures.none s.store s.log h.reserves.log_room))

pub returns-in-Some-clause-told : goal.returns-in-Some-clause-told
returns-in-Some-clause-told g c = λ s h may.
    log_full_told g.M.SortedMaps.maps g.M.SortedMaps.spare g.M.SortedMaps.limit c.args.core.now s c.args.session h c.in-Some.why (c.in-Some.ensures.some s.store s.log h.reserves.log_room)

pub returns-in-None-clause-told : goal.returns-in-None-clause-told
returns-in-None-clause-told g c = IfOk-weaker c.begin_logged.result _ _
    (λ said told s h may. told s h may (log_fits g.M.SortedMaps.maps g.M.SortedMaps.spare g.M.SortedMaps.limit c.args.core.now s c.args.session h end_bytes end_bytes (omega arith) (c.in-None.ensures.none s.store s.log h.reserves.log_room))) c.begin_logged.ensures.told
