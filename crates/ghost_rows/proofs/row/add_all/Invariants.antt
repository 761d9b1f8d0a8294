use Rattle.std.proofs.Common.{◌≡◌, ◌<◌, slice_get, Some, length}
use Rattle.txn_machine.specs.Deltas.{worth}
use Rattle.escrow_bounds.specs.Column.{added, part}
use Rattle.ghost_rows.specs.Rows.{EachColumn}
use Rattle.ghost_rows.proofs.Steps.{Halfway}
use Rattle.ghost_rows.proofs.row.add_all.Given as goal

abbrev pub invariant-loop-index : goal.invariant-loop-index
invariant-loop-index l = record {
  moves : Halfway l.index (λ i c. added c l.session (worth i l.delta)) l.initial.columns l.columns;
  nine : length l.before ≡ 9;
  before : EachColumn (λ i c. i < l.index → slice_get l.before i ≡ Some (part c l.session)) l.initial.columns;
}
