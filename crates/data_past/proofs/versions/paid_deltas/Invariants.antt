use Rattle.std.proofs.Common.{◌≡◌, ◌++◌, drop}
use Rattle.data_past.specs.Moves.{deltas_in}
use Rattle.data_past.proofs.versions.paid_deltas.Given as goal

abbrev pub invariant-loop-step : goal.invariant-loop-step
invariant-loop-step l = l.deltas.items ++ deltas_in (drop l.step-index l.kept) ≡ deltas_in l.kept
