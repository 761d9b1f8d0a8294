use Rattle.log_room.proofs.Moving.{makes_room}
use Rattle.log_room.proofs.room.LogRoom.make_ghost.Goals as goal

pub returns-clause-room : goal.returns-clause-room
returns-clause-room c s l i a d h k appended = makes_room c.args.self.now c.move_by.new.self s l i a d c.args.appended (record { limit = c.move_by.ensures.limit; used = c.move_by.ensures.used; reserved_are = c.move_by.ensures.reserved }) h k appended
