use Rattle.log_room.proofs.Moving.{cleans_room}
use Rattle.log_room.proofs.room.LogRoom.clean.Goals as goal

pub returns-clause-room : goal.returns-clause-room
returns-clause-room c s l i a place appended k room = cleans_room c.args.self.now c.move_by.new.self s l i a place c.args.appended (record { limit = c.move_by.ensures.limit; used = c.move_by.ensures.used; reserved_are = c.move_by.ensures.reserved }) appended k room
