use Rattle.std.proofs.Common.{◌≡◌, ℕ, length}
use Rattle.lock_manager.specs.Table.{of_session, nothing}
use Rattle.lock_manager.proofs.table.LockTable.new.Given as goal

abbrev pub invariant-loop : goal.invariant-loop
invariant-loop l = record { full : length l.parts.items ≡ l.counter; none : (session : ℕ) → of_session l.parts.items session ≡ nothing }
