use Rattle.core_state.proofs.Rooms.{rooms_waiting}
use Rattle.core_state.proofs.Sessions.{of_ready, owes_none}
use Rattle.core_locks.proofs.Asked.{waits_told}
use Rattle.core_locks.proofs.asking.wait_for.Goals as goal

pub returns : goal.returns
returns g c = λ s a h r asks waits.
    let core = c.args.core.now in
    waits_told g.M.SortedMaps.maps g.M.SortedMaps.spare g.M.SortedMaps.limit core s c.args.session h (of_ready g.M.SortedMaps.maps g.M.SortedMaps.spare g.M.SortedMaps.limit core s c.args.session h r) a c.args.wants asks c.wait.new.self core.wants c.args.sessions c.wait.ensures
    (rooms_waiting (g.M.SortedMaps.spare core.store.tables) core.store.catalog core.store.views core.book.opens core.locks c.wait.new.self core.wants c.args.session c.args.wants h.holds.rooms c.wait.ensures
    (owes_none g.M.SortedMaps.maps g.M.SortedMaps.spare g.M.SortedMaps.limit core s c.args.session h r)) waits
