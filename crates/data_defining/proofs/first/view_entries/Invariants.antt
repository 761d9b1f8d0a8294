use Rattle.std.proofs.Common.{◌≡◌, map}
use Rattle.data_defining.specs.Defining.{view_entry}
use Rattle.data_defining.proofs.first.view_entries.Given as goal

abbrev pub invariant-loop-row : goal.invariant-loop-row
invariant-loop-row l = l.entries ≡ map (view_entry l.number) l.yielded
