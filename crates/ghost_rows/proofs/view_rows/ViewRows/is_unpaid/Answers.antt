use Rattle.std.proofs.Common.{◌≡◌, ◌∙◌, sym, ap, subst, Some, ℤ, List, ◌≤◌, length, true}
use Rattle.std.specs.Prelude.{◌↔◌}
use Rattle.ghost_rows.specs.Rows.{OpenRow, row_at}
use Rattle.ghost_rows.specs.State.{State}
use Rattle.ghost_rows.specs.Kept.{Pays, RowStands, AllCount, IsUnpaid}
use Rattle.ghost_rows.proofs.UnpaidLemmas.{unpaid_at, other_row}
use Rattle.ghost_rows.proofs.StateLemmas.{not_both}
use Rattle.ghost_rows.proofs.view_rows.ViewRows.is_unpaid.Goals as goal

pub returns-in-Some : goal.returns-in-Some
returns-in-Some c = λ stored many pays kept counts.
    let here : row_at c.args.self.now.rows (c.args.view, c.args.group.now) ≡ Some c.in-Some.row.now = sym (c.in-Some.ensures ∙ ap (λ (s : State). row_at s.rows (c.args.view, c.args.group.now)) c.self.view_is) in
    unpaid_at (row_at c.args.self.now.rows (c.args.view, c.args.group.now)) stored many pays c.is_unpaid.result kept counts
    (λ row is. subst (λ (r : OpenRow). (ns : List ℤ) (ps : Pays) → 1 ≤ length ns → RowStands r ns ps → AllCount ps → (c.is_unpaid.result ≡ true) ↔ IsUnpaid ps) (let same : c.in-Some.row.now ≡ row = other_row _ c.in-Some.row.now row here is in same) c.is_unpaid.ensures)
    (λ none. absurd (not_both _ c.in-Some.row.now here none))
