use Rattle.std.proofs.Common.{◌≡◌, ◌++◌, drop, length}
use Rattle.record_reading.specs.Completed.{value_among, filled_from, completed}
use Rattle.record_reading.proofs.completed.completed.Given as goal

abbrev pub invariant-loop-column : goal.invariant-loop-column
invariant-loop-column l = l.row ++ filled_from (value_among (length l.kinds) l.places l.values) l.column (drop l.column l.kinds) ≡ completed l.kinds l.places l.values
