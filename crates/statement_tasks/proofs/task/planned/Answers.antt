use mathlib.Core.Path.{sym, ap, ◌∙◌}
use Rattle.iv_meaning.specs.Bound.{bound_tree}
use Rattle.iv_meaning.specs.Objects.{schema_of}
use Rattle.statement_law.specs.Statements.{bound_work}
use Rattle.statement_tasks.proofs.task.planned.Goals as goal

pub returns-in_ok-insert-in-Insert-clause-left : goal.returns-in_ok-insert-in-Insert-clause-left
returns-in_ok-insert-in-Insert-clause-left c =
    c.in_ok-insert-in-Insert.ensures c.args.mode ∙ ap (λ b. bound_work c.args.mode (schema_of c.args.catalog.now) (bound_tree b)) (sym c.in-Insert.is)
