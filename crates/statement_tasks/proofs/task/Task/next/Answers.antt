use mathlib.Core.Path.{sym, subst}
use Rattle.statement_tasks.specs.declared.task.Task.TheVariants as task
use Rattle.statement_tasks.specs.Tasks.{left_when, mode_of, Moves}
use Rattle.statement_tasks.proofs.Reading.{read_moves}
use Rattle.statement_tasks.proofs.task.Task.next.Goals as goal

pub returns-in-Read : goal.returns-in-Read
returns-in-Read c =
    subst (λ t. Moves (mode_of t) (left_when c.args.told t) c.next.result (task.Read c.next.new.self)) (sym c.in-Read.is)
    (read_moves c.args.told c.in-Read.task c.next.result c.next.new.self c.next.ensures)
