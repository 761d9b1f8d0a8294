use Rattle.std.proofs.Common.{sym, subst}
use Rattle.iv_types.specs.declared.statement.Mode.{Mode}
use Rattle.txn_machine.specs.Ghosts.{the_views}
use Rattle.txn_machine.specs.Log.{logs}
use Rattle.txn_machine.specs.Store.{Opens, does}
use Rattle.log_room.specs.Rooms.{IsRoomOf}
use Rattle.core_ends.specs.Ends.{FitsEnd}
use Rattle.core_ends.proofs.beginning.reserve_end.Goals as goal

pub returns-in-Serial-clause-room : goal.returns-in-Serial-clause-room
returns-in-Serial-clause-room c s l i a is none room fits =
    subst (λ (m : Mode). IsRoomOf c.begin.new.self (does the_views s i (Opens m)) (logs s i a (Opens m) l)) (sym c.in-Serial.is)
    (c.begin.ensures.room s l i a is none room (subst (λ (m : Mode). FitsEnd m c.args.log.now.limit s l) c.in-Serial.is fits))

pub returns-in-Snapshot-clause-room : goal.returns-in-Snapshot-clause-room
returns-in-Snapshot-clause-room c s l i a is none room fits =
    subst (λ (m : Mode). IsRoomOf c.args.log.now (does the_views s i (Opens m)) (logs s i a (Opens m) l)) (sym c.in-Snapshot.is)
    (c.same_room_law.ensures.snapshots_begin c.args.log.now s l i a is none room)
