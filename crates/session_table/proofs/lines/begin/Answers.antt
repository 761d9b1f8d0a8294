use Rattle.session_table.proofs.Giving.{started_began, refused_began}
use Rattle.iv_types.specs.Trees.{statement_tree}
use Rattle.session_table.proofs.lines.begin.Goals as goal

pub returns-in-Ok-clause-began : goal.returns-in-Ok-clause-began
returns-in-Ok-clause-began c = rw (c.err.ensures.value, c.in-Ok.is) (started_began c.args.session.now c.start.new.self (statement_tree c.in-Ok.statement) c.start.result c.requires c.start.ensures.started)

pub returns-in-Err-clause-began : goal.returns-in-Err-clause-began
returns-in-Err-clause-began c = rw c.in-Err.is (refused_began c.args.session.now c.in-Err.why c.requires)
