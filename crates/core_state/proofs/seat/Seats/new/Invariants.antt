use Rattle.std.proofs.Common.{◌≡◌, ℕ, length}
use Rattle.core_state.specs.Seats.{new_seat, seat_at}
use Rattle.core_state.proofs.seat.Seats.new.Given as goal

abbrev pub invariant-loop : goal.invariant-loop
invariant-loop l = record {
  many : length l.seats.items ≡ l.counter;
  new : (session : ℕ) → seat_at l.seats.items session ≡ new_seat;
}
