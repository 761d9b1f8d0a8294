use Rattle.txn_machine.specs.Acts as act
use Rattle.log_room.proofs.Moving.{finds_room}
use Rattle.log_room.proofs.room.LogRoom.find_row.Goals as goal

pub returns-clause-room : goal.returns-clause-room
returns-clause-room c s l i d ghosted h k due = finds_room c.args.self.now c.move_by.new.self s l i act.Ghost d ghosted c.args.for_ghost (record { limit = c.move_by.ensures.limit; used = c.move_by.ensures.used; reserved_are = c.move_by.ensures.reserved }) h k due
