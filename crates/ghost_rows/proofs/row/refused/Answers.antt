use Rattle.ghost_rows.proofs.ColumnSteps.{put_back}
use Rattle.ghost_rows.proofs.row.refused.Goals as goal

pub returns-in-Ok-clause-same : goal.returns-in-Ok-clause-same
returns-in-Ok-clause-same c = put_back c.args.escrow.now c.add.new.self c.take_back.new.self c.args.session _ c.in-Ok.before c.requires.reserved c.in-Ok.ensures.ok c.in-Ok.ensures.before c.take_back.ensures.value
