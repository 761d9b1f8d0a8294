use mathlib.Core.Path.{ap, ◌∙◌}
use Rattle.std.specs.Prelude.{◌+◌, ◌-◌, ◌^◌, min}
use Rattle.log_room.proofs.Moving.{puts_room}
use Rattle.log_room.proofs.room.LogRoom.put.Goals as goal

pub returns-clause-room : goal.returns-clause-room
returns-clause-room c s l i a place row h k written owed room = puts_room c.args.self.now c.move_by.new.self s l i a place row c.args.written c.args.owed (record { limit = c.move_by.ensures.limit; used = c.move_by.ensures.used; reserved_are = c.move_by.ensures.reserved ∙ ap (λ n. min (c.args.self.now.reserved + n) (2 ^ 64 - 1) - 0) c.saturating_add.ensures }) h k written owed room
