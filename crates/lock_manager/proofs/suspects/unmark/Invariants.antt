-- The session is at none of the places before this one.
use Rattle.std.proofs.Common.{◌≡◌, ◌≤◌, length}
use Rattle.lock_manager.specs.declared.suspects.TheConstants.{SLOTS}
use Rattle.lock_manager.specs.Suspects.{IsUnmarkedBefore}
use Rattle.lock_manager.proofs.suspects.unmark.Given as goal

abbrev pub invariant-loop-place : goal.invariant-loop-place
invariant-loop-place l = record {
  size : length l.slots.items ≡ SLOTS;
  most : l.place ≤ SLOTS;
  unmarked : IsUnmarkedBefore l.fn.slots.items l.place l.session l.slots.items;
}
