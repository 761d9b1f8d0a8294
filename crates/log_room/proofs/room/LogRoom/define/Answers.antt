use Rattle.log_room.proofs.Moving.{defines_room}
use Rattle.log_room.proofs.room.LogRoom.define.Goals as goal

pub returns-clause-room : goal.returns-clause-room
returns-clause-room c s l i statement object need k room = defines_room c.args.self.now c.move_by.new.self s l i statement object c.args.need (record { limit = c.move_by.ensures.limit; used = c.move_by.ensures.used; reserved_are = c.move_by.ensures.reserved }) need k room
