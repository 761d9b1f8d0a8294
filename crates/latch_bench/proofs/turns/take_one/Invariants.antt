use Rattle.std.proofs.Common.{◌≡◌}
use Rattle.turn_latch.specs.Words.{seat_latch}
use Rattle.latch_bench.proofs.turns.take_one.Given as goal

abbrev pub invariant-loop : goal.invariant-loop
invariant-loop g l = record {
  next : (goal.iterator-loop g).can_next l.iterator';
  finite : (goal.iterator-loop g).is_finite l.iterator';
  latch : seat_latch l.seat ≡ seat_latch l.initial.seat;
}
