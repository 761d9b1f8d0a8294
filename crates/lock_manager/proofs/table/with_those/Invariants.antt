-- Those that were found, and of the suspects before this one those that are in the way.
use Rattle.lock_manager.specs.Table.{locks_of}
use Rattle.lock_manager.specs.Suspects.{IsFound}
use Rattle.lock_manager.proofs.Ways.{AreBefore}
use Rattle.lock_manager.proofs.table.with_those.Given as goal

abbrev pub invariant-loop-other : goal.invariant-loop-other
invariant-loop-other l = AreBefore l.fn.found (IsFound l.suspects (locks_of l.parts) l.session l.want) l.other l.sessions
