use Rattle.std.proofs.Common.{◌≡◌, ℕ, length}
use Rattle.data_room.specs.Reserved.{share_at}
use Rattle.data_room.proofs.room.Shares.new.Given as goal

abbrev pub invariant-loop : goal.invariant-loop
invariant-loop l = record {
  many : length l.shares.items ≡ l.counter;
  none : (session : ℕ) → share_at l.shares.items session ≡ 0;
}
