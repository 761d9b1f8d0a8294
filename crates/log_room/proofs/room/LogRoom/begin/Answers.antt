use Rattle.log_room.proofs.Moving.{begins_room}
use Rattle.log_room.proofs.room.LogRoom.begin.Goals as goal

pub returns-clause-room : goal.returns-clause-room
returns-clause-room c s l i a is none k room = begins_room c.args.self.now c.move_by.new.self s l i a (record { limit = c.move_by.ensures.limit; used = c.move_by.ensures.used; reserved_are = c.move_by.ensures.reserved }) is none k room
