use Rattle.std.proofs.Common.{◌≡◌}
use Rattle.turn_latch.specs.Words.{seat_latch}
use Rattle.latch_bench.proofs.turns.take_turns.Given as goal

abbrev pub invariant-loop : goal.invariant-loop
invariant-loop g l = seat_latch l.seat ≡ seat_latch l.initial.seat
