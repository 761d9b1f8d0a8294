use Rattle.std.proofs.Common.{subst}
use Rattle.iv_types.specs.declared.statement.Mode.{Mode}
use Rattle.core_ends.specs.Ends.{EndsAs}
use Rattle.core_ends.proofs.LogEnds.{serial_ends, snapshot_ends}
use Rattle.core_ends.proofs.ending.free_end.Goals as goal

pub returns-in-Serial-clause-room : goal.returns-in-Serial-clause-room
returns-in-Serial-clause-room c s l i a h room =
    c.end.ensures.room s l i a (serial_ends s l i c.args.wrote (subst (λ (m : Mode). EndsAs s l i m c.args.wrote) c.in-Serial.is h)) h.empty.kept_is h.wrote_is room

pub returns-in-Snapshot-clause-room : goal.returns-in-Snapshot-clause-room
returns-in-Snapshot-clause-room c s l i a h room =
    c.same_room_law.ensures.snapshots_end c.args.log.now s l i a (snapshot_ends s l i c.args.wrote (subst (λ (m : Mode). EndsAs s l i m c.args.wrote) c.in-Snapshot.is h)) room
