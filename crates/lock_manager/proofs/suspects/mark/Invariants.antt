-- The first locks are marked, and what was marked before.
use Rattle.std.proofs.Common.{◌≡◌, length}
use Rattle.lock_manager.specs.declared.suspects.TheConstants.{SLOTS}
use Rattle.lock_manager.specs.Suspects.{KeepsMarks}
use Rattle.lock_manager.proofs.Marks.{AreMarkedBefore}
use Rattle.lock_manager.proofs.suspects.mark.Given as goal

abbrev pub invariant-loop-lock : goal.invariant-loop-lock
invariant-loop-lock l = record {
  size : length l.slots.items ≡ SLOTS;
  kept : KeepsMarks l.fn.slots.items l.slots.items;
  marked : AreMarkedBefore l.slots.items l.session l.locks l.lock-index;
}
