use Rattle.std.proofs.Common.{length}
use mathlib.Core.Path.{ap, ◌∙◌}
use Rattle.statement_law.specs.Inserting.{inserts}
use Rattle.dml_exec.specs.Tasks.{inserts_by}
use Rattle.dml_exec.proofs.Works.{inserts_is}
use Rattle.dml_exec.proofs.task.Task.of_new.Goals as goal

pub returns : goal.returns
returns c =
    let t = c.args.table.now in
    c.of_rows.ensures
    ∙ (ap (λ ps. inserts_by t.number ps (length c.as_slice.result.now)) c.in_ok-pending.ensures
    ∙ (inserts_is t c.args.rows (length c.as_slice.result.now) ∙ ap (λ rows. inserts t c.args.rows (length rows)) c.as_slice.ensures))
