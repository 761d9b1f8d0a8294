use Rattle.std.proofs.Common.{refl}
use Rattle.txn_machine.specs.Log.{carried}
use Rattle.log_room.proofs.Moving.{saves_room}
use Rattle.log_room.proofs.room.LogRoom.save.Goals as goal

pub returns-clause-room : goal.returns-clause-room
returns-clause-room c s l is least k = saves_room c.args.self.now (record c.args.self.now { used = c.saturating_add-self.result }) s l c.args.bytes (carried s) refl refl c.saturating_add-self.ensures is least k
