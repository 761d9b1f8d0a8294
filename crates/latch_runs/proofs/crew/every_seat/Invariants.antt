use Rattle.std.proofs.Common.{◌≡◌}
use Rattle.turn_latch.specs.Words.{latch_of, seat_latch, knows}
use Rattle.latch_runs.specs.Crews.{IsCrew}
use Rattle.latch_runs.proofs.crew.every_seat.Given as goal

abbrev pub invariant-loop : goal.invariant-loop
invariant-loop l = record {
  latch : seat_latch l.first ≡ latch_of l.latch;
  zeroth : (knows l.first).number ≡ 0;
  crew : IsCrew (latch_of l.latch) (knows l.first).made l.seats.items;
}
