use Rattle.std.proofs.Common.{◌≡◌, List, Option, Some, map, filter, length}
use mathlib.Core.Path.{sym, ap, ◌∙◌}
use Rattle.iv_meaning.specs.Database.{Row}
use Rattle.iv_meaning.specs.Bound.{set_tree}
use Rattle.iv_meaning.specs.Grouping.{all_of}
use Rattle.iv_meaning.specs.Statement.{row_after, pairs, is_changed}
use Rattle.statement_law.specs.Changing.{puts_all, set_to}
use Rattle.statement_law.specs.Changing as meant
use Rattle.dml_exec.specs.Tasks.{puts_by, set_in}
use Rattle.dml_exec.proofs.Works.{updates_is}
use Rattle.dml_exec.proofs.finding.updates.Goals as goal

pub returns : goal.returns
returns c =
    let t = c.args.table.now in
    let rows = c.args.rows.now in
    let count = length c.as_slice.result.now in
    let after_of : List Row → Option (List Row) = λ rs. all_of (map (row_after t (map set_tree c.args.sets.now)) rs) in
    let all_is : after_of rows ≡ Some c.in-Some.after =
    ap after_of (sym c.as_slice-2.ensures) ∙ (sym (c.in_ok-after.ensures (after_of c.as_slice-2.result.now) c.rows_after.ensures) ∙ c.in-Some.is) in
    ap (λ ps. puts_by t.number ps count) (c.in_ok-pending.ensures ∙ ap (λ rs. map (set_in t) (filter is_changed (pairs rs c.in-Some.after))) c.as_slice-3.ensures)
    ∙ (updates_is t (filter is_changed (pairs rows c.in-Some.after)) count
    ∙ (ap (λ rs. puts_all t (map set_to (filter is_changed (pairs rows c.in-Some.after))) (length rs)) c.as_slice.ensures
    ∙ ap (meant.updates t rows) (sym all_is)))
