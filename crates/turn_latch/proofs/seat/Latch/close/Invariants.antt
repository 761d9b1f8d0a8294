use Rattle.std.proofs.Common.{◌≡◌, ◌⊎◌, ℕ, ◌<◌, ◌≤◌, List, [], map, All, Contains}
use Rattle.turn_latch.specs.declared.view.Exchange.{Exchange}
use Rattle.turn_latch.proofs.Closing.{InRetired, AllFit, EndsIn}
use Rattle.turn_latch.proofs.seat.Latch.close.Given as goal

abbrev pub invariant-loop-seat : goal.invariant-loop-seat
invariant-loop-seat g l = record {
  same : l.pass.table_id ≡ l.initial.pass.table_id;
  view : l.pass.me ≡ (record (l.initial.pass.me.0) { retired = l.pass.me.0.retired }, []);
  tables : All (λ s. s.pass.table_id ≡ l.table.shared.table_id) l.seats.items;
  each : (n : ℕ) → 0 < n → n ≤ l.initial.pass.me.0.made → Contains (map (λ s. s.pass.me.0.number) l.seats.items) n ⊎ InRetired n l.pass.me.0.retired;
  ends : (x : g.row.T.Denot) (log : List (Exchange g.row.T.Denot)) → All (λ s. EndsIn g.T.Parted.history g.T.Parted.by g.T.Parted.part x log s.pass.me.0) l.seats.items → AllFit g.T.Parted.history g.T.Parted.by g.T.Parted.part x log l.pass.me.0.retired
      → All (λ s. EndsIn g.T.Parted.history g.T.Parted.by g.T.Parted.part x log s.pass.me.0) l.initial.seats.items;
}

abbrev pub decreases-loop-seat : goal.decreases-loop-seat
decreases-loop-seat g l = goal.left-loop-seat g l
