use Rattle.std.proofs.Common.{◌≡◌, length}
use Rattle.session_table.specs.Slots.{AreSlots}
use Rattle.session_table.proofs.Asking.{PassesKnown}
use Rattle.session_table.proofs.trying.retry.Given as goal

-- passes from here on are passes from there
abbrev pub invariant-loop : goal.invariant-loop
invariant-loop g l = record {
  count : length l.slots ≡ length l.fn.slots;
  slots : AreSlots l.slots;
  known : PassesKnown (g.S.Stepper.stands l.fn.engine) l.fn.slots l.fn.text.items (g.S.Stepper.stands l.engine) l.counter l.slots l.text.items;
}
