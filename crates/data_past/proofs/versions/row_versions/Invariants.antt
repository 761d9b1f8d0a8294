use Rattle.std.proofs.Common.{◌≡◌, ◌++◌, drop}
use Rattle.data_past.specs.Moves.{versions_in}
use Rattle.data_past.proofs.versions.row_versions.Given as goal

abbrev pub invariant-loop-step : goal.invariant-loop-step
invariant-loop-step l = l.versions.items ++ versions_in l.catalog (drop l.step-index l.kept) ≡ versions_in l.catalog l.kept
