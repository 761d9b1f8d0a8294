use Rattle.log_room.proofs.Moving.{ends_room, aborts}
use Rattle.log_room.proofs.room.LogRoom.end.Goals as goal

pub returns-clause-room : goal.returns-clause-room
returns-clause-room c s l i a h none wrote k = ends_room c.args.self.now c.move_by.new.self s l i a c.args.wrote c.unless-record.result (record { limit = c.move_by.ensures.limit; used = c.move_by.ensures.used; reserved_are = c.move_by.ensures.reserved }) h none wrote k (aborts c.args.wrote c.unless-record.result c.unless-record.ensures)
