use Rattle.std.specs.Prelude.{◌≤◌, ◌-◌, length}
use Rattle.session_table.specs.Trying.{NoneWaits}
use Rattle.session_table.proofs.trying.next_waiting.Given as goal

abbrev pub invariant-loop-at : goal.invariant-loop-at
invariant-loop-at l = record { from : l.place ≤ l.at; inside : l.at ≤ length l.slots; none : NoneWaits l.place (l.at - l.place) l.slots }

abbrev pub decreases-loop-at : goal.decreases-loop-at
decreases-loop-at l = length l.slots - l.at
