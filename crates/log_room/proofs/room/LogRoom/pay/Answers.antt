use mathlib.Core.Path.{ap, ◌∙◌}
use Rattle.std.specs.Prelude.{◌+◌, ◌-◌, ◌^◌, min}
use Rattle.log_room.proofs.Moving.{pays_room}
use Rattle.log_room.proofs.room.LogRoom.pay.Goals as goal

pub returns-clause-room : goal.returns-clause-room
returns-clause-room c s l i a d ghosted h k appended due = pays_room c.args.self.now c.move_by.new.self s l i a d ghosted c.args.appended c.args.for_ghost (record { limit = c.move_by.ensures.limit; used = c.move_by.ensures.used; reserved_are = c.move_by.ensures.reserved ∙ ap (λ n. min (c.args.self.now.reserved + 0) (2 ^ 64 - 1) - n) c.saturating_add.ensures }) h k appended due
