use Rattle.std.proofs.Common.{◌<◌, slice_get, IfSome}
use Rattle.escrow_bounds.specs.Column.{IsReserved}
use Rattle.ghost_rows.specs.Rows.{EachColumn, Widens}
use Rattle.ghost_rows.proofs.row.reserve_all.Given as goal

abbrev pub invariant-loop-index : goal.invariant-loop-index
invariant-loop-index l = record {
  widens : EachColumn (λ i c. IfSome (slice_get l.columns i) (Widens c)) l.initial.columns;
  reserved : EachColumn (λ i c. i < l.index → IsReserved c l.session) l.columns;
}
