use Rattle.std.proofs.Common.{◌≡◌, length}
use Rattle.session_table.specs.Slots.{AreNew}
use Rattle.session_table.proofs.table.new_slots.Given as goal

abbrev pub invariant-loop-place : goal.invariant-loop-place
invariant-loop-place l = record {
  count : length l.slots.items ≡ l.place;
  new : AreNew l.slots.items;
}
