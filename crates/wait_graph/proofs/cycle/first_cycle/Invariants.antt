-- The members so far are the first steps of a walk that comes back to the requester.
use Rattle.std.proofs.Common.{◌≡◌, ◌≤◌, length}
use Rattle.iv_meaning.specs.Waits.{recorded}
use Rattle.wait_graph.proofs.Places.{IsBegun}
use Rattle.wait_graph.proofs.cycle.first_cycle.Given as goal

abbrev pub invariant-loop-at : goal.invariant-loop-at
invariant-loop-at l = record {
  begun : IsBegun (recorded l.waits) l.requester l.length l.at l.members l.last;
  long : length l.members ≡ 64;
  from_1 : 1 ≤ l.last;
  to_64 : l.last ≤ 64;
}
