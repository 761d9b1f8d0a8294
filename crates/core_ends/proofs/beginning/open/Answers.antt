use Rattle.std.proofs.Common.{ap, ◌∙◌, arith}
use Rattle.txn_machine.specs.Acts as act
use Rattle.txn_machine.specs.Log.{begun_after}
use Rattle.txn_machine.specs.Store.{Opens}
use Rattle.core_ends.specs.Ends.{number_in_log}
use Rattle.core_state.proofs.Sessions.{none_there}
use Rattle.core_ends.proofs.Begins.{fits, fits_end, begun_told, begins_as, begun_few}
use Rattle.core_ends.proofs.beginning.open.Goals as goal

pub begun_with-begun-requires : goal.begun_with-begun-requires
begun_with-begun-requires g c =
    let h = c.requires.1 in
    let lt = h.counts.running h.runs in
    omega (arith, h.holds.begun, h.counts.begun, lt)

pub begin-requires-clause-none : goal.begin-requires-clause-none
begin-requires-clause-none g c = none_there g.M.SortedMaps.maps g.M.SortedMaps.spare g.M.SortedMaps.limit c.args.core.now c.requires.0 c.args.session c.requires.1 c.requires.2.0 c.requires.2.1

pub begin-requires-clause-fits : goal.begin-requires-clause-fits
begin-requires-clause-fits g c = fits g.M.SortedMaps.maps g.M.SortedMaps.spare g.M.SortedMaps.limit c.args.core.now c.requires.0 c.args.session c.requires.1 c.requires.2.0 c.requires.2.1 c.book_law.ensures c.args.mode c.requires.3

pub returns-clause-told : goal.returns-clause-told
returns-clause-told g c = λ s h may room.
    let more = c.begun_with-begun.ensures ∙ ap (begun_after (Opens c.args.mode)) h.holds.begun in
    begun_told g.M.SortedMaps.maps g.M.SortedMaps.spare g.M.SortedMaps.limit c.args.core.now s c.args.session h may.0 may.1 c.book_law.ensures c.args.mode c.number_in_log-id.result c.begun_with-begun.result c.number-number.result c.len-defs.result c.begin.new.self c.reserve_end.new.log room
    c.in_ok-begin.ensures.ok (begins_as c.args.mode s.log c.number_in_log-id.result (c.number_in_log-id.ensures ∙ ap (number_in_log c.args.mode) more)) more
    (let few = begun_few c.args.mode s.log.begun in omega (arith, few, more)) c.number-number.ensures c.len-defs.ensures
    c.reserve_end.ensures.limit
    (c.reserve_end.ensures.room s.store s.log c.args.session (act.Begin c.args.mode) may.0 may.1 h.reserves.log_room (fits_end g.M.SortedMaps.maps g.M.SortedMaps.spare g.M.SortedMaps.limit c.args.core.now s c.args.session h c.args.mode room))
