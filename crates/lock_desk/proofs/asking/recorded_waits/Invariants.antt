use Rattle.std.proofs.Common.{◌≡◌, ℕ, ◌≤◌, length}
use Rattle.iv_meaning.specs.Waits.{recorded}
use Rattle.txn_machine.specs.Locks.{AreInTheWay}
use Rattle.lock_manager.specs.Table.{locks_of, waiting_of}
use Rattle.lock_desk.proofs.asking.recorded_waits.Given as goal

abbrev pub invariant-loop-at : goal.invariant-loop-at
invariant-loop-at l = record {
  each : (k : ℕ) → 1 ≤ k → k ≤ l.at → AreInTheWay (locks_of l.locks) k (waiting_of l.locks k) (recorded l.waits k);
  long : length l.waits ≡ 64;
}
