use mathlib.Core.Path.{ap, ◌∙◌}
use Rattle.std.specs.Prelude.{◌+◌, ◌-◌, ◌*◌, ◌^◌, min}
use Rattle.log_room.proofs.Moving.{commits_room}
use Rattle.log_room.proofs.room.LogRoom.commit.Goals as goal

pub returns-clause-room : goal.returns-clause-room
returns-clause-room c s l i a h kept k = commits_room c.args.self.now c.move_by.new.self s l i a c.saturating_mul-undos.result (record { limit = c.move_by.ensures.limit; used = c.move_by.ensures.used; reserved_are = c.move_by.ensures.reserved ∙ ap (λ n. min (c.args.self.now.reserved + 0) (2 ^ 64 - 1) - n) c.saturating_add.ensures }) h (c.saturating_mul-undos.ensures ∙ ap (λ n. min (n * 25) (2 ^ 64 - 1)) kept) k
