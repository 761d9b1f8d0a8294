use Rattle.std.proofs.Common.{map, length}
use mathlib.Core.Path.{ap, ◌∙◌}
use Rattle.statement_law.specs.Changing as meant
use Rattle.statement_law.specs.Changing.{puts_all}
use Rattle.dml_exec.specs.Tasks.{puts_by, taken_out}
use Rattle.dml_exec.proofs.Works.{deletes_is}
use Rattle.dml_exec.proofs.finding.deletes.Goals as goal

pub returns : goal.returns
returns c =
    let t = c.args.table.now in
    ap (λ ps. puts_by t.number ps (length c.as_slice.result.now)) (c.in_ok-pending.ensures ∙ ap (map (taken_out t)) c.as_slice-2.ensures)
    ∙ (deletes_is t c.args.rows.now (length c.as_slice.result.now)
    ∙ ap (λ rows. puts_all t (map meant.taken_out c.args.rows.now) (length rows)) c.as_slice.ensures)
