use Rattle.std.proofs.Common.{◌≡◌, ℕ, [], length}
use Rattle.data_past.specs.Ahead.{rows_at, deltas_at}
use Rattle.data_past.proofs.ahead.VersionsAhead.new.Given as goal

abbrev pub invariant-loop : goal.invariant-loop
invariant-loop l = record {
  many : length l.sessions.items ≡ l.counter;
  rows : (session : ℕ) → rows_at l.sessions.items session ≡ [];
  deltas : (session : ℕ) → deltas_at l.sessions.items session ≡ [];
}
