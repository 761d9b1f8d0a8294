use Rattle.std.proofs.Common.{◌≡◌, All}
use Rattle.turn_latch.specs.Words.{latch_of, seat_latch, knows}
use Rattle.latch_bench.proofs.turns.seats.Given as goal

abbrev pub invariant-loop : goal.invariant-loop
invariant-loop l = record {
  latch : seat_latch l.first ≡ seat_latch l.initial.first;
  zeroth : (knows l.first).number ≡ 0;
  all : All (λ s. seat_latch s ≡ latch_of l.latch) l.seats.items;
}
