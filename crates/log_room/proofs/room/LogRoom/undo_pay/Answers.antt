use Rattle.log_room.proofs.Moving.{undoes_pay_room}
use Rattle.log_room.proofs.room.LogRoom.undo_pay.Goals as goal

pub returns-clause-room : goal.returns-clause-room
returns-clause-room c s l i a d h k = undoes_pay_room c.args.self.now c.move_by.new.self s l i a d (record { limit = c.move_by.ensures.limit; used = c.move_by.ensures.used; reserved_are = c.move_by.ensures.reserved }) h k
