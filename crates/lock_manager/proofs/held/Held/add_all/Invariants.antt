-- The locks so far are those before and the new ones, and there is room for those of what is left.
use Rattle.std.proofs.Common.{◌≤◌, ◌+◌, length}
use Rattle.lock_manager.specs.Table.{AddAtMost}
use Rattle.lock_manager.proofs.Counts.{AreAdded}
use Rattle.lock_manager.proofs.held.Held.add_all.Given as goal

abbrev pub invariant-loop-want : goal.invariant-loop-want
invariant-loop-want l = record {
  added : AreAdded l.fn.self.locks l.fn.wants.items l.self.locks l.left.items l.used;
  room : AddAtMost l.self.spare l.self.locks l.left.items;
  spare : l.fn.self.spare ≤ l.self.spare + l.used;
  few : l.used + length l.left.items ≤ length l.fn.wants.items;
}

abbrev pub decreases-loop-want : goal.decreases-loop-want
decreases-loop-want l = length l.left.items
