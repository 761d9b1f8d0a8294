use Rattle.std.proofs.Common.{◌≡◌, ◌<◌}
use Rattle.txn_machine.specs.Deltas.{worth}
use Rattle.escrow_bounds.specs.Column as column
use Rattle.ghost_rows.specs.Rows.{EachColumn}
use Rattle.ghost_rows.proofs.row.first_refused.Given as goal

abbrev pub invariant-loop-index : goal.invariant-loop-index
invariant-loop-index l = record {
  same : l.columns ≡ l.initial.columns;
  allowed : EachColumn (λ i c. i < l.index → column.IsAllowed c l.session (worth i l.delta)) l.initial.columns;
}
